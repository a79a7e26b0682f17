pub mod Judging
pub mod Stated
pub mod Legal
pub mod Lowest
pub mod Stand
pub mod Tells
pub mod Names
