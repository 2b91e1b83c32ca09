-- The theorems that rest on a definition that a must-fail edit changes.
pub mod Unchanged
