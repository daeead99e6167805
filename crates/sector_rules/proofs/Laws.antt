-- Laws of the definitions: what proofs cite. No public contract and no statement outside cites them. What contracts of private functions of `sectors` cite
-- stands with the definitions: more_found in Search, place_of and side_refusal in Unpacked. Laws that only proofs of code need stand in `sectors`.
pub mod Base
pub mod Trip
pub mod Damage
pub mod Burst
pub mod Rewrite
pub mod Versions
pub mod Values
