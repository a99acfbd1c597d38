pub mod Evaluation
pub mod Expressions
pub mod Shown
pub mod Typing
