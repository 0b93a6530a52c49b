pub mod Benches
pub mod Admission
