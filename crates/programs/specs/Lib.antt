-- The definitions that the contracts of `programs` cite, and the theorems about them that people read.
-- The laws that both rest on stand below Laws.
pub mod Symbols
pub mod Output
pub mod Building
pub mod Reading
pub mod Due
pub mod Bench
pub mod WayBack
pub mod Laws
