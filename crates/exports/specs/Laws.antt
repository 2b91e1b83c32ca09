-- The laws below the theorems.
pub mod Codable
pub mod Frames
pub mod Sheets
