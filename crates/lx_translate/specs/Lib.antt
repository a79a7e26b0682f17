pub mod Translation
pub mod Worked
