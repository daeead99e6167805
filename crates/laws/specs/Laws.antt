-- Laws of the definitions: what proofs cite, so that no proof elsewhere opens a definition. No contract and no statement outside cites them.
pub mod Cases
pub mod Tests
pub mod All
pub mod Lowest
pub mod FirstBelow
pub mod Ranges
pub mod Tab
pub mod Made
pub mod Same
pub mod Changes
pub mod Overlay
pub mod Count
pub mod Found
pub mod Firsts
pub mod Numbers
pub mod Options
