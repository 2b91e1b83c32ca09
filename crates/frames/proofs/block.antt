-- Laws that the proofs of `frames::block` share.
mod Laws
