-- The definitions that the contracts of `words` cite, and the theorems about them that people read.
-- The laws that both rest on stand below Laws.
pub mod Refusal
pub mod Bits
pub mod Sums
pub mod Crc
pub mod Time
pub mod Determined
pub mod Unchanged
pub mod RoundTrip
pub mod Checked
pub mod Noticed
pub mod Linear
pub mod Distance
pub mod Reading
pub mod Laws
