pub mod FieldKinds
pub mod Gathered
pub mod Masks
pub mod Records
pub mod Told
