pub mod GoingOn
pub mod LastLines
pub mod Reading
