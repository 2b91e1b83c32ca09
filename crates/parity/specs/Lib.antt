-- The definitions that the contracts of `parity` cite, and the theorems about them that people read.
-- The laws that both rest on stand below Laws.
pub mod Equations
pub mod Fill
pub mod Order
pub mod ExactlyOne
pub mod Judged
pub mod InOrder
pub mod Laws
