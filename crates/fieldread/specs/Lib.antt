pub mod Results
pub mod Zones
