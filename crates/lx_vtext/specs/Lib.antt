pub mod Tree
pub mod Names
pub mod Fits
pub mod Printed
pub mod Reading
pub mod Laws
pub mod Worked
