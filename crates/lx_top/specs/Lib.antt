pub mod Completeness
pub mod Files
pub mod Making
pub mod Meaning
pub mod Modules
pub mod Outcome
pub mod Table
pub mod Worked
