pub mod Cleared
pub mod Clearing
pub mod CopyParts
pub mod Copying
