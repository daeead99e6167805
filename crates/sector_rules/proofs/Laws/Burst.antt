-- Stage 4: one burst of wrong cells anywhere on each side of a packed disk.
pub mod Known
pub mod SideCells
pub mod Read
pub mod Clash
pub mod SideBurst
