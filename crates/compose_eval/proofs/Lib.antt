pub mod Kept
pub mod Parting
pub mod Starts
