pub mod Agreeing
pub mod Alike
pub mod Faultless
pub mod Rows
pub mod Translated
pub mod Writable
