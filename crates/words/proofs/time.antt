-- What the proofs of `time` use.
mod Laws
