-- What the proofs of `order` use.
mod Laws
