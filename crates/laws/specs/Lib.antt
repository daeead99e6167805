-- The definitions that contracts and statements of all crates cite; then their laws.
pub mod Lists
pub mod Changes
pub mod Below
pub mod Found
pub mod Numbers
pub mod Options
pub mod Laws
