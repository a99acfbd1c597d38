pub mod Known
pub mod Letters
pub mod Outlooks
pub mod Searched
