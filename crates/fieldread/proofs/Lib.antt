pub mod Cases
pub mod Passing
mod Chains
