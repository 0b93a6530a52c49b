pub mod Words
pub mod Shown
pub mod Unsaid
pub mod Said
