pub mod Courses
pub mod DeadLines
pub mod DeadTexts
pub mod Reported
pub mod WatchLaws
pub mod Watching
