pub mod ReadRuns
pub mod PlanRuns
pub mod TotalRuns
