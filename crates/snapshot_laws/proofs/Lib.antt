pub mod Fitting
pub mod Returning
pub mod SameStates
