pub mod Blaming
pub mod Explaining
pub mod Outcomes
pub mod Parting
