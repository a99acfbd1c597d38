pub mod Carrying
pub mod Keeping
pub mod Restoring
pub mod Savings
pub mod Standing
pub mod WholeBytes
pub mod Words
pub mod Writing
