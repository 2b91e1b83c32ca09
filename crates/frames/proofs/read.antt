-- The proofs of `read`, and the laws that they rest on.
mod Laws
