pub mod Advanced
pub mod Choices
pub mod Names
pub mod Starts
pub mod Written
