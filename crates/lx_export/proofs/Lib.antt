pub mod Files
pub mod Interrupts
pub mod Joined
pub mod Places
pub mod Rows
