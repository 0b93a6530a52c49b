pub mod Values
pub mod Inversions
pub mod Floor
pub mod Bound
