-- The proofs of `symbols`, and the laws that they rest on.
mod Laws
