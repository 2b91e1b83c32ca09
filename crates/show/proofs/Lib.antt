-- The laws that the proofs of `show` rest on.
pub mod Counts
