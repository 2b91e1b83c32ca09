-- The proofs of `write`, and the laws that they rest on.
mod Laws
