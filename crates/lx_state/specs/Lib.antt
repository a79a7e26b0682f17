pub mod Builtins
pub mod Changes
pub mod Frames
pub mod Lists
pub mod Naming
pub mod Step
pub mod Work
pub mod Worked
