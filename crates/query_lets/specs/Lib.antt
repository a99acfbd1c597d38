pub mod Known
pub mod Outlines
pub mod Places
pub mod Sizes
pub mod Unfolded
pub mod Words
