pub mod Counts
pub mod Sites
pub mod Routes
pub mod Estimates
pub mod Loops
pub mod Theorems
