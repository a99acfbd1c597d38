pub mod Lines
pub mod Nodes
pub mod Outcomes
pub mod Stopping
pub mod Words
