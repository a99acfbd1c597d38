pub mod Becoming
pub mod Plain
