pub mod Walk
pub mod Ways
