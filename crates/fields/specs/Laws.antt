-- The laws that the proofs and theorems of `fields` rest on.
pub mod Table
pub mod Counts
pub mod Subframe2
pub mod Answers
pub mod Pages
