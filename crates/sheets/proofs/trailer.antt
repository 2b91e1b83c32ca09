-- The proofs of `trailer`, and the laws that they rest on.
mod Laws
