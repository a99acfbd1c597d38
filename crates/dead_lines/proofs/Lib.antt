pub mod Judging
pub mod LinesOn
pub mod Reporting
pub mod Watched
