-- The proofs of `fill`, and the laws that they rest on.
mod Laws
