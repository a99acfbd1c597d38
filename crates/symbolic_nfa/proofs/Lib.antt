pub mod Adding
pub mod Ending
pub mod Gathering
pub mod Lists
pub mod Meeting
pub mod StatesOn
pub mod Usefulness
pub mod WordsAfter
