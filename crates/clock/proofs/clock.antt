-- What the proofs of more than one function of `clock` use.
mod Powers
mod Laws
mod Rows
