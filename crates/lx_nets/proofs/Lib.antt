pub mod Assigned
pub mod Domains
pub mod Driven
pub mod Puts
pub mod Remembered
pub mod Shaped
pub mod Written
