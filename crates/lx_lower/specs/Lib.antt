pub mod Fixed
pub mod Lists
pub mod Lowers
