-- The proofs of `building`, and the laws that they rest on.
pub mod Laws
