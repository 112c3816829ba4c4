pub mod Counts
pub mod Found
pub mod OnePass
pub mod Phases
pub mod Verdict
