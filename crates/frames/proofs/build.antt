-- Laws that the proofs of `frames::build` share.
mod Laws
