-- The proofs of `text`, and the laws that they rest on.
pub mod Laws
