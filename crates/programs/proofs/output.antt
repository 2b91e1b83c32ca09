-- The proofs of `output`, and the laws that they rest on.
mod Laws
