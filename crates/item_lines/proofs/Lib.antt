pub mod Digits
pub mod FieldBytes
pub mod FieldCuts
pub mod LineReading
pub mod Numbers
pub mod Unbroken
