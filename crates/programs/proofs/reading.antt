-- The proofs of `reading`, and the laws that they rest on.
mod Contents
mod Laws
