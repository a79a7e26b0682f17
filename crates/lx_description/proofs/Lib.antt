pub mod Instance
pub mod Kept
pub mod Plain
pub mod PlainModule
pub mod Rows
