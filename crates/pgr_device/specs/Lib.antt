-- what a reader must believe
pub mod Access
pub mod Allowed
pub mod Device
pub mod Keys
pub mod Registered
pub mod Replies
pub mod Runs
pub mod Spc
pub mod Statements
-- what only the proofs need
pub mod Kept
pub mod KeyFields
pub mod Ports
pub mod Seen
