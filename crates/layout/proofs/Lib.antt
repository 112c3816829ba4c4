pub mod Ends
pub mod Measures
pub mod Bytes
pub mod Puts
pub mod Ways
