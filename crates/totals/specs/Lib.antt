pub mod Batch
pub mod Totals
pub mod History
pub mod Steps
pub mod Lines
