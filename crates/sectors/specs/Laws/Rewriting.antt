-- Stage 4: rewriting one sector.
pub mod Changed
pub mod NewCells
pub mod Compared
pub mod Exchanged
pub mod Skipped
pub mod Answered
