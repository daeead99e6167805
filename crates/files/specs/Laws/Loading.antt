-- Stage 1: what the code reads of an image into tables: bytes of blocks, map records, the map, tallies, the parts of files, the slots, the hashes of names.
pub mod Blocks
pub mod Loops
pub mod Records
pub mod Loaded
pub mod Tally
pub mod Parts
pub mod Chains
pub mod BlockRows
pub mod Slots
pub mod NameHashes
