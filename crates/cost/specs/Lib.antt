pub mod Costs
pub mod Milliseconds
pub mod CrossingsFirst
pub mod Lengths
pub mod CrossingsFirstLaws
pub mod Totals
pub mod MillisecondsLaws
