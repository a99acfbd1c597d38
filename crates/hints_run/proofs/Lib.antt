pub mod Added
pub mod Carried
pub mod Reading
