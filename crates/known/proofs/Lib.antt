-- The theorem that people read; it rests on a table that a must-fail edit changes.
pub mod KnownResults
