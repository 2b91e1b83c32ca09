-- The laws below the theorems and the functions' proofs.
pub mod Tests
pub mod Turns
pub mod Digits
pub mod Signs
pub mod Puts
pub mod Sums
pub mod Xor
pub mod Crc
pub mod Runs
pub mod TwoBlocks
pub mod Words
pub mod Nearest
pub mod Judged
