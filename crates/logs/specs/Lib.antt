pub mod Framing
pub mod Cursors
pub mod Records
pub mod Pages
pub mod Items
pub mod Plans
pub mod Whole
