pub mod Sign
pub mod Align
