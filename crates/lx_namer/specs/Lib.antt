pub mod Answers
pub mod Base
pub mod Giving
pub mod Marks
pub mod Names
pub mod Staying
pub mod Taken
pub mod Worked
