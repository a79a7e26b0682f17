pub mod Driven
pub mod Inside
pub mod Lines
pub mod Owners
pub mod Remembered
pub mod Shaped
pub mod Starts
pub mod Texts
