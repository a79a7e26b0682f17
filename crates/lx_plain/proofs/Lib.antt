pub mod Conditions
pub mod Grouping
pub mod Lining
pub mod Plains
pub mod Puts
pub mod Reading
pub mod Sound
pub mod Under
