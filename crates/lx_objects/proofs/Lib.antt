mod Addresses
pub mod Behind
mod Keys
mod Laid
mod Longer
mod Parts
mod Wires
