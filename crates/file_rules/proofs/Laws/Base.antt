-- Stage 1: the definitions by themselves. The disk in block order and its image, its header, its records in their bytes, disks given by header, records and
-- contents, names, lists of bad blocks, the list of a batch, result buffers, what a sound disk has, what its first track says, calls that judge a disk, and
-- what a reply tells.
pub mod Disk
pub mod Header
pub mod Records
pub mod Whole
pub mod Names
pub mod BadList
pub mod ItemValues
pub mod Items
pub mod ListedItems
pub mod Results
pub mod Sound
pub mod Ends
pub mod Track
pub mod OnSound
pub mod Judged
