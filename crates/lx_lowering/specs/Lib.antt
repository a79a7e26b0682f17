pub mod Constants
pub mod Flat
pub mod Instance
pub mod Lowering
pub mod Split
pub mod Terms
pub mod Worked
