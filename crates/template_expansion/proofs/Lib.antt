pub mod Again
pub mod Built
pub mod Levels
pub mod Meanings
pub mod Outcomes
pub mod Plain
pub mod Whole
