-- Stage 5: the files that the accepted calls leave are those of the inner model; every byte that belongs to none of them is zero.
pub mod Present
pub mod Left
pub mod Zero
