-- The laws that the proofs and theorems of `sheets` rest on.
pub mod Text
pub mod List
pub mod Sets
pub mod Numerals
pub mod Trailer
pub mod Lengths
pub mod Steps
pub mod Bags
pub mod LineTexts
pub mod Judging
pub mod Lines
pub mod Sheet
pub mod Missing
pub mod Verdicts
pub mod Meaning
pub mod Arranged
pub mod Writing
