mod Atoms
pub mod After
mod Chosen
mod Collecting
mod Composing
mod Counted
pub mod FieldTypes
pub mod Fitting
mod FromOperands
mod KeyColumns
pub mod ManyPositions
pub mod Measuring
mod NamedColumns
pub mod Nested
pub mod OfOperands
mod Paired
pub mod Parts
pub mod Parted
pub mod Placed
pub mod Repeats
pub mod Rooted
mod Shaping
pub mod Distinguished
mod Valued
mod WellTyped
pub mod ValueTypes
