pub mod Ending
pub mod Gathering
pub mod Growing
pub mod Leading
pub mod Putting
pub mod Reaching
pub mod Searching
pub mod Telling
