pub mod Blocked
pub mod Driven
pub mod Grown
pub mod Parted
pub mod Resets
pub mod Statements
pub mod Writing
