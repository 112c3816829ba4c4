pub mod Lengths
pub mod Runs
pub mod PlanCalls
pub mod Columns
pub mod TotalCalls
pub mod Ones
