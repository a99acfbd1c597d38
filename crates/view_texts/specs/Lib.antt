pub mod Cells
pub mod Commas
pub mod Decimals
pub mod Reasons
pub mod Spelled
pub mod Utf8
pub mod Values
