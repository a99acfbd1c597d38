pub mod Collections
pub mod Merging
pub mod Parted
pub mod Shares
