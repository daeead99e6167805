-- Stage 4: the model gives what the inner model gives.
pub mod Listed
pub mod Agree
pub mod Run
