-- The definitions that the contracts of `tables` cite, and the theorems about the tables.
-- The laws that both rest on stand below Laws.
pub mod Coordinates
pub mod A2
pub mod T2
pub mod Bcde2
pub mod A3
pub mod T3
pub mod Bcde3
pub mod Matrix
pub mod Rules
pub mod Totals
pub mod Published
pub mod Laws
