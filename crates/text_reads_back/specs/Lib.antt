pub mod Reach
pub mod Written
