-- The laws that the proofs and theorems of `frames` rest on.
pub mod Blocks
pub mod Good
pub mod Reading
pub mod Due
pub mod Verdicts
pub mod Building
pub mod Turned
pub mod Steps
