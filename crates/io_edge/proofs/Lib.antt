mod Copies
mod Handings
mod Pieces
pub mod LineLaws
pub mod LinesEnds
pub mod OneList
pub mod Parts
pub mod Readings
