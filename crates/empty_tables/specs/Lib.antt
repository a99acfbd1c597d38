pub mod EmptyTables
pub mod OwnItems
