pub mod Below
pub mod Machine
pub mod Reading
pub mod Trees
pub mod Weights
