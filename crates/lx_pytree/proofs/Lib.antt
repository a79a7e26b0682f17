pub mod Falls
pub mod Moves
pub mod Planting
pub mod Steps
