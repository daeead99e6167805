-- The definitions, in the order of docs/RULES.md; then what is stated of them alone.
pub mod Stream
pub mod Codes
pub mod Mfm
pub mod Sync
pub mod Crc
pub mod Written
pub mod Damage
pub mod CodeValues
