pub mod Scripts
pub mod Judgement
pub mod Accepted
