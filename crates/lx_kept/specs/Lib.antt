pub mod Depths
pub mod Drivers
pub mod Given
pub mod Tables
