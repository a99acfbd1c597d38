pub mod Trees
pub mod Terms
pub mod Steps
pub mod Reads
pub mod Ends
pub mod Stops
