-- The definitions that the contracts of `sheets` cite, and the theorems about them that people read.
-- The laws that both rest on stand below Laws.
pub mod Text
pub mod List
pub mod Number
pub mod Numerals
pub mod Trailer
pub mod Lines
pub mod Sheet
pub mod Write
pub mod Walk
pub mod Contents
pub mod Carried
pub mod Due
pub mod Refused
pub mod Writing
pub mod Walking
pub mod Laws
