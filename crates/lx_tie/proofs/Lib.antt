pub mod AllRows
pub mod Leaves
pub mod Parts
pub mod Rows
pub mod Texts
pub mod Words
