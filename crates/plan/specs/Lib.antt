pub mod Widths
pub mod Walk
