-- Stage 1: where sectors are placed, and what the code reads: the track table, headers, the search and the data field.
pub mod Placement
pub mod Search
pub mod Faults
