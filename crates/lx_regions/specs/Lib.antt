pub mod Rounded
pub mod Space
pub mod Free
pub mod Least
pub mod Short
pub mod Search
