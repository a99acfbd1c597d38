pub mod Feeding
pub mod TestedQueries
