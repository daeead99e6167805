-- Stage 2: the inner model, which the proofs alone use, with an owner for each block; what holds of it throughout a history, and what is read of its disk.
pub mod Inner
pub mod Invariant
pub mod Fields
pub mod Reads
pub mod Judgements
pub mod Owners
pub mod Last
