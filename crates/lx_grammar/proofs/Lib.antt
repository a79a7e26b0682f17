pub mod Below
pub mod Checks
pub mod Guided
pub mod Marks
pub mod Passed
pub mod Tables
pub mod Test
