pub mod Sizes
pub mod formers
