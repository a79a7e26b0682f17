pub mod Told
pub mod Surveyed
pub mod Worked
