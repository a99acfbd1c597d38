pub mod Comparisons
pub mod Limits
pub mod Rules
