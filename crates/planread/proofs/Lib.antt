pub mod Refusing
pub mod Turns
pub mod Ways
pub mod Additions
