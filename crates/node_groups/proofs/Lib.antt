pub mod Plans
pub mod Naming
pub mod CarriedOut
pub mod Endings
pub mod Repeats
pub mod Reports
