pub mod Margins
pub mod Joined
