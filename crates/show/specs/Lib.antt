-- The definitions that the contracts of `show` cite.
pub mod Answers
pub mod Counts
