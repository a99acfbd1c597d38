pub mod LastEnds
pub mod Outcomes
pub mod Stops
pub mod StreamsApart
pub mod Texts
