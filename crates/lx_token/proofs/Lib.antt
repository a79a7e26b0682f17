pub mod Endings
pub mod Values
pub mod ByLines
pub mod Cuts
pub mod Within
pub mod Rising
pub mod Slicing
