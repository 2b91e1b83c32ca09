-- Laws that the proofs of `fields::pages` share.
mod Laws
