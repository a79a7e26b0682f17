pub mod Operators
pub mod Forms
