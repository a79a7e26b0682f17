pub mod Lines
pub mod Operands
pub mod Owned
pub mod Plain
pub mod Sources
pub mod Tests
