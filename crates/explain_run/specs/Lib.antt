pub mod Apart
pub mod Appended
pub mod Blamed
pub mod Call
pub mod Explained
pub mod Statuses
pub mod TwoReadings
