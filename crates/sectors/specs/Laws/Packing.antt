-- Stage 3: packing: the items of a side, the rows with a CRC, and the image run by run.
pub mod Items
pub mod Runs
