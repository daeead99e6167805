-- The definitions: replies, faults and the disk kind, the sector rules, the HFE image, unpacking, packing and rewriting;
-- then what is stated of them alone.
pub mod Replies
pub mod Faults
pub mod Geometry
pub mod Search
pub mod Hfe
pub mod Unpacked
pub mod Packed
pub mod Rewritten
pub mod RoundTrip
pub mod Rewriting
pub mod Versions
pub mod Damage
pub mod Values
pub mod HeaderValues
pub mod ReplyValues
pub mod WrittenValues
