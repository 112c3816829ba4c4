pub mod Commas
pub mod Counting
pub mod Ends
pub mod Refusals
