pub mod Split
pub mod Reading
pub mod Methods
pub mod Commands
pub mod Forms
pub mod Updates
