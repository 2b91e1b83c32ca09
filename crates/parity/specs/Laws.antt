-- The laws that the proofs and theorems of `parity` rest on.
pub mod Zeros
pub mod Rows
pub mod Substitution
pub mod Scan
pub mod Parts
pub mod Codewords
pub mod Linear
pub mod Passed
pub mod Order
