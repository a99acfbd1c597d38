pub mod DrilledBytes
pub mod FieldBytes
pub mod FieldValues
pub mod Readings
pub mod Rows
