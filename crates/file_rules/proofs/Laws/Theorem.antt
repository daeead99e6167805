-- Stage 6: history; that refusals change nothing; that a batch is its single calls; what becomes of tails of free records; what holds of bad blocks; and how
-- the list of a batch is read.
pub mod History
pub mod Refusals
pub mod BatchIsCalls
pub mod FreeTails
pub mod TailsUnread
pub mod BadBlocks
pub mod ItemsRead
