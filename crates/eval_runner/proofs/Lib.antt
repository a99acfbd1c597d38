pub mod NumberRunners
pub mod RunnerCopies
pub mod RunnerSteps
