mod Counting
mod Known
mod LetPlaces
pub mod SearchedParts
