pub mod Coding
pub mod Fits
pub mod Plain
pub mod Predicates
pub mod Truth
