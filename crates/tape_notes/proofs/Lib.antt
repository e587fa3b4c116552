pub mod LaneRuns
pub mod Blocks
pub mod Entries
