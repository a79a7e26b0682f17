pub mod Additions
pub mod Calls
pub mod Growing
pub mod Making
pub mod Outcomes
pub mod Reading
pub mod Rows
pub mod Targets
