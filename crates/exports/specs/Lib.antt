-- The definitions that the contracts of `exports` cite, and the theorems about them that people read.
-- The laws that both rest on stand below Laws.
pub mod Code
pub mod Calls
pub mod Laws
pub mod Told
pub mod Called
