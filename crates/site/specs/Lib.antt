pub mod Questions
pub mod Directories
pub mod WaysOut
