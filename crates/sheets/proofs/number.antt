-- The proofs of `number`, and the laws that they rest on.
pub mod Laws
