pub mod Drives
pub mod Marks
