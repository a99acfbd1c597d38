pub mod Checks
pub mod Compilations
pub mod Drillable
pub mod Shortest
pub mod Unread
pub mod WholeTexts
