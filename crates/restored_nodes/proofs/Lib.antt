pub mod Asked
pub mod Lists
pub mod Returned
pub mod Room
pub mod Shapes
pub mod Waiting
