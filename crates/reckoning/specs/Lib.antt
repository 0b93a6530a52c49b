pub mod Reckoning
pub mod Floor
pub mod Twice
pub mod Runs
