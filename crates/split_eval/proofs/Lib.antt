pub mod Distinct
pub mod Found
pub mod Kept
pub mod Places
