pub mod Forward
pub mod Kept
pub mod Reach
