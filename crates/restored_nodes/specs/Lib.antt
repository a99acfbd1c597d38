pub mod Cells
pub mod Restored
pub mod Rooms
