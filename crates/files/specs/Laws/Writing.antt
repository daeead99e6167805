-- Stage 3: bytes, records, slots and whole blocks as they are written into an image.
pub mod Stored
pub mod Steps
pub mod Rows
pub mod Given
pub mod InStep
