pub mod Drivings
pub mod Net
pub mod Targets
pub mod Walks
pub mod Whole
