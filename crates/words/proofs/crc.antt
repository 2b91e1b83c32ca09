-- What the proofs of `crc` use.
mod Laws
