-- Stage 3: damage of fields, headers and sides.
pub mod Agree
pub mod FieldDamage
pub mod SideDamage
