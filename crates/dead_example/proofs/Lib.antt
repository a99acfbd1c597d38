pub mod InCells
pub mod Reading
pub mod Values
