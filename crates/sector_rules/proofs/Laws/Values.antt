-- Statements by value: their proofs.
pub mod HeaderValues
pub mod ReplyValues
pub mod WrittenValues
