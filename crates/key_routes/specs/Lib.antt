pub mod Hashes
pub mod Routes
