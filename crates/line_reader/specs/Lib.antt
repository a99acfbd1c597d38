pub mod CutLines
pub mod Decimals
pub mod LineParts
pub mod Reading
pub mod Skipped
pub mod Texts
pub mod Written
