pub mod TapeSites
pub mod TapeTables
pub mod TapeMeaning
pub mod Counting
pub mod Distances
pub mod Leaving
pub mod TapeLaws
