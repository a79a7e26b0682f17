pub mod Ends
pub mod Shaped
pub mod Widths
