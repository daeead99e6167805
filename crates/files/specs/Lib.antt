-- The replies of the refusals; the other definitions stand in file_rules. Laws that only the proofs of the functions need.
pub mod Laws
pub mod Refusals
