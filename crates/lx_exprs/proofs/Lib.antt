pub mod Choices
pub mod Moved
