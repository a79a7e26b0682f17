pub mod Steps
pub mod Inverting
pub mod Values
pub mod Pairs
pub mod Atoms
pub mod Orders
pub mod Accepting
pub mod Leading
