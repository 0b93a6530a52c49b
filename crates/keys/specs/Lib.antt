pub mod Denials
pub mod Spelling
pub mod Codes
pub mod Names
pub mod Laws
