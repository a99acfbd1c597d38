pub mod Commas
pub mod Examples
pub mod Texts
