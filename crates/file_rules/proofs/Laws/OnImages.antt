-- Stage 3: calls on an image give what the inner model gives.
pub mod Remove
pub mod Slot
pub mod Added
pub mod Add
pub mod Single
pub mod Batch
pub mod Run
