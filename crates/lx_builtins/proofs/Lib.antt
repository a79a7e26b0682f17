pub mod Exponents
pub mod Fitting
pub mod Joint
pub mod Steps
