pub mod Hex
pub mod Limits
