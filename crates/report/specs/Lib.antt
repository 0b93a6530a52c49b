pub mod Lines
pub mod Reports
pub mod Faults
pub mod Printing
pub mod Texts
