pub mod Findings
pub mod Known
pub mod Letters
pub mod Pairs
pub mod Searched
pub mod Separations
pub mod SeparationText
