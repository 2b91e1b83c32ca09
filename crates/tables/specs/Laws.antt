-- The laws that the proofs and theorems of `tables` rest on.
pub mod Cases
pub mod Passes
pub mod Tests
pub mod Triangle
