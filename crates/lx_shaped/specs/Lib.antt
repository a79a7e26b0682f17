pub mod Laws
pub mod Making
pub mod Sizes
pub mod Worked
