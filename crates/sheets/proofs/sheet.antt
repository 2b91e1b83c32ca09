-- The proofs of `sheet`, and the laws that they rest on.
mod Laws
