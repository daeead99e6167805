-- The laws of the definitions, and the promises of this crate, which rest on them. They stand here and not in specs/, so
-- that a wrong definition is refused by the statement that it breaks.
pub mod Laws
pub mod Values
pub mod Theorems
