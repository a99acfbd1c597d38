pub mod Call
pub mod Commands
pub mod Outputs
pub mod Units
