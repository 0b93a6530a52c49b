pub mod Ways
pub mod Chains
pub mod Laws
