pub mod BaseLines
pub mod StartLemmas
pub mod StartSteps
pub mod StepLemmas
