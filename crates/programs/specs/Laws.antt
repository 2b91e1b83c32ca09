-- The laws that the proofs and theorems of `programs` rest on.
pub mod Symbols
pub mod Output
pub mod Due
pub mod Building
pub mod Lines
pub mod Inputs
pub mod Reading
pub mod Texts
