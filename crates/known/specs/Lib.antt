-- The known results of document 01 that are marked P.
pub mod Rows
pub mod KnownResults
