pub mod Commas
pub mod Draws
pub mod Drillable
pub mod Fields
pub mod Lines
