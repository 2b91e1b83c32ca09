-- The proofs of `list`, and the laws that they rest on.
pub mod Laws
