pub mod Terms
pub mod Forms
pub mod File
pub mod Shown
pub mod Tops
