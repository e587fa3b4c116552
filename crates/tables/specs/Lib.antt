pub mod Floors
pub mod Tapes
pub mod Texts
pub mod Verdicts
pub mod States
