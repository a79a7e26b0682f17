pub mod Fans
pub mod Named
