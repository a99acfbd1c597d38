pub mod Folds
pub mod RecordParts
pub mod TypedExpressions
pub mod TypedNames
pub mod TypedValues
