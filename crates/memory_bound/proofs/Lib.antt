pub mod Entries
pub mod Growth
pub mod KeysOnce
pub mod Rooms
pub mod Tables
