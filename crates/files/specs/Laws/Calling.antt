-- Stage 4: the calls, case by case: list and read, format, add and remove, batch.
pub mod Delivered
pub mod BadNoted
pub mod Fresh
pub mod Changed
pub mod SoundDisk
pub mod Items
pub mod ItemSplit
