pub mod Told
pub mod Placing
pub mod Kept
pub mod Rows
