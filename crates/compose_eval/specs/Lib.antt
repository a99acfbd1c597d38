pub mod Followers
pub mod Lending
pub mod formers
