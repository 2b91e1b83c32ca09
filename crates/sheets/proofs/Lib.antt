-- The theorems and laws that rest on a definition that a must-fail edit of this crate changes.
pub mod Laws
pub mod Reading
pub mod Refused
pub mod Writing
pub mod Walking
