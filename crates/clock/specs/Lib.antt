-- The definitions that the contracts of `clock` cite, and the theorems about them that people read.
-- The laws that both rest on stand below Laws.
pub mod Clock
pub mod ClockTerms
pub mod Laws
