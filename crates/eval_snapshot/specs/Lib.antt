pub mod Dumped
pub mod Fits
pub mod Means
