pub mod LogLemmas
mod LogSteps
