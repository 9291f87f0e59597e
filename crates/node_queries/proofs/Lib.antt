pub mod Querying
