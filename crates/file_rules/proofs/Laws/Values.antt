-- Statements by value: their proofs.
pub mod HeaderValues
pub mod CheckValues
pub mod TrackValues
