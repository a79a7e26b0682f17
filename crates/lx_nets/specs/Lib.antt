pub mod Lines
pub mod Memories
pub mod Plans
pub mod Texts
