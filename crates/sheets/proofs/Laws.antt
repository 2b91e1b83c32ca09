-- The laws among them.
pub mod Judging
pub mod Verdicts
pub mod Reading
