pub mod Bitwise
pub mod Fields
pub mod Ints
pub mod Lengths
pub mod Machine
pub mod Ranges
