pub mod Acceptance
pub mod Bounds
