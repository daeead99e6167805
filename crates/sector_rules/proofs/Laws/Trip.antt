-- Stage 2: round_trip. A written side is read back, then whole images.
pub mod SideTrip
pub mod FieldTrip
pub mod RoundTrip
