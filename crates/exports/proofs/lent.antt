-- The proofs of `lent`, and the laws that they and the proofs of the calls rest on.
pub mod Laws
