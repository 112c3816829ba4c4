pub mod Signed
pub mod Columns
pub mod Ways
pub mod Examples
pub mod Places
pub mod Alone
pub mod Past
pub mod Whole
