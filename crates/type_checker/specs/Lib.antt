pub mod Blames
pub mod Breaches
pub mod Judged
pub mod Judgments
pub mod Standings
pub mod Stops
pub mod WordRules
