mod Each
pub mod Faultless
mod Grown
mod Own
mod Rows
mod Stayed
mod Tails
