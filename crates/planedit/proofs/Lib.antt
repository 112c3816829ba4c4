pub mod Values
pub mod Judging
pub mod Writing
pub mod Ways
