pub mod EntryLaws
pub mod KeyBytesLaws
pub mod RecordLaws
pub mod Texts
