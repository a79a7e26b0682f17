pub mod Bodies
pub mod Lines
pub mod Plans
pub mod Puts
pub mod Resets
pub mod Writes
