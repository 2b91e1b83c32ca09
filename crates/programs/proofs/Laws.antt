-- The laws among them.
pub mod Building
pub mod Inputs
