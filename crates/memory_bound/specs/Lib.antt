pub mod KeysMet
