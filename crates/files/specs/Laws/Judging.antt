-- Stage 2: the judgements of a disk, 8, 9, 19, 10 and 11, on those tables, and those of track 0.
pub mod Header
pub mod Sound
pub mod Track
pub mod SoundImage
