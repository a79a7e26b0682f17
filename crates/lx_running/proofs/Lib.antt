pub mod Alike
pub mod Answering
pub mod Marks
pub mod Once
pub mod Runners
