pub mod Sameness
pub mod Checking
pub mod Questions
pub mod Settings
pub mod Parts
pub mod Building
