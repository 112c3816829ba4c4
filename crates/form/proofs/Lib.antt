pub mod Lent
pub mod Numbering
pub mod Rows
pub mod Symbols
