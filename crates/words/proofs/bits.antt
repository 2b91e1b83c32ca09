-- What the proofs of more than one function of `bits` use.
mod Laws
