pub mod Results
pub mod Steps
