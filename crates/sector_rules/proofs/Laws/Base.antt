-- Stage 1: the definitions by themselves. The placement, the search, faults, the two versions, unpacking, the written image, and what an answer says of how it
-- came.
pub mod Geometry
pub mod Search
pub mod Faults
pub mod Versions
pub mod Unpacked
pub mod Packed
pub mod Told
