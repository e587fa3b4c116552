pub mod Answering
pub mod WaysOut
pub mod WaysWalked
pub mod WaysMet
