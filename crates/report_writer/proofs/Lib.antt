mod Begins
mod Joined
pub mod Records
pub mod Tables
