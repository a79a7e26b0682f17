pub mod Drives
pub mod Lowered
pub mod Marks
pub mod Operands
pub mod Plans
pub mod Sheets
pub mod Tables
