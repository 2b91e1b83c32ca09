-- The definitions that the contracts of `fields` cite, and the theorems about them that people read.
-- The laws that both rest on stand below Laws.
pub mod Table
pub mod Counts
pub mod Subframe2
pub mod Delay
pub mod Pages
pub mod CountsBack
pub mod FieldsBack
pub mod Delays
pub mod PagesBack
pub mod PagesRefused
pub mod Laws
