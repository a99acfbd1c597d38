pub mod Body
pub mod Calls
pub mod Larges
pub mod Left
pub mod Parts
pub mod Says
pub mod TopTerms
pub mod Trees
