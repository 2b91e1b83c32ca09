-- The laws among them.
pub mod Reading
pub mod Due
pub mod Verdicts
pub mod Turned
