-- Beside stages 2 to 5: add and remove on any sound disk, with any tails of free records. Which records, bytes of blocks and bytes of the header their steps
-- change, what is read of disks that differ in tails alone, and what the steps leave of such disks.
pub mod Cases
pub mod Kept
pub mod Taken
pub mod BlockBytes
pub mod Stays
pub mod HeaderKept
pub mod Alike
pub mod Unread
