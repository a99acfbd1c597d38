pub mod Call
pub mod Commands
pub mod Compiling
pub mod Endings
pub mod Exits
pub mod Outputs
pub mod Queries
pub mod Streams
