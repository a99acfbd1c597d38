pub mod Judging
pub mod Lines
pub mod Outcomes
pub mod Replying
pub mod Sent
pub mod Starting
pub mod Words
