pub mod Fitting
pub mod Calls
pub mod Effects
