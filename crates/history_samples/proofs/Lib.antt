pub mod TwoNodes
