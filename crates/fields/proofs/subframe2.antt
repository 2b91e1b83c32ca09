-- The proofs of `subframe2`, and the laws that they rest on.
mod Laws
