pub mod Elaboration
pub mod Fsms
pub mod Worked
