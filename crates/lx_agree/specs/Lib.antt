pub mod Agreement
pub mod Following
pub mod Rows
