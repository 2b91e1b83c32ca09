-- The theorems and laws that rest on a definition that a must-fail edit of this crate changes.
pub mod Laws
pub mod Building
pub mod Reading
pub mod Refused
pub mod Damage
