pub mod Ambiguities
pub mod Compiled
pub mod QueryRead
pub mod Stops
