pub mod Sums
pub mod Parts
pub mod Reading
pub mod Whole
