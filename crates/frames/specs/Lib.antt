-- The definitions that the contracts of `frames` cite, and the theorems about them that people read.
-- The laws that both rest on stand below Laws.
pub mod Frame
pub mod Read
pub mod Build
pub mod Due
pub mod Turned
pub mod Places
pub mod Built
pub mod Reading
pub mod Refused
pub mod Building
pub mod Damage
pub mod Laws
