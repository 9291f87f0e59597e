pub mod Commands
pub mod Agreements
pub mod Whole
pub mod Machines
pub mod Safety
pub mod SampleRun
