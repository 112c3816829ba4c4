pub mod Judging
pub mod Lent
pub mod EditWays
pub mod ReadWays
