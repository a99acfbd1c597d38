pub mod Asked
pub mod Fitting
pub mod Keys
pub mod OwnCells
pub mod OwnWords
pub mod Tables
