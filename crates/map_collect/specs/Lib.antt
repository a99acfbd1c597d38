pub mod Coding
pub mod Followers
pub mod Keys
pub mod Lending
pub mod LendingTracks
pub mod Tracks
pub mod formers
