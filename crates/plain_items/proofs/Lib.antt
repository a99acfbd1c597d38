pub mod Becomes
pub mod Columns
pub mod Fields
pub mod Halving
pub mod Plainness
