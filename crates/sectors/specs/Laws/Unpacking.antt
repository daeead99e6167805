-- Stage 2: unpacking, side by side.
pub mod Sides
pub mod Codes
pub mod SectorsJudged
