pub mod Loops
pub mod Left
pub mod Bytes
pub mod Places
pub mod Hiding
pub mod Field
pub mod Turns
pub mod Puts
