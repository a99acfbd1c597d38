pub mod Plain
pub mod Printing
pub mod Reading
pub mod Sayable
pub mod Stop
pub mod TermText
pub mod TreeReading
