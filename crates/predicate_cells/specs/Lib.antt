pub mod CellSets
pub mod Cells
pub mod Classes
pub mod Marks
pub mod Met
pub mod Ranks
pub mod Rising
pub mod Samples
