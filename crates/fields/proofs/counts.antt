-- The proofs of `counts`, and the laws that they rest on.
pub mod Laws
