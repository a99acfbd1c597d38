pub mod DumpLists
pub mod DumpParts
pub mod Spelled
pub mod SpelledValues
