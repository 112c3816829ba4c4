pub mod Complement
pub mod Bytes
pub mod Run
pub mod Rows
