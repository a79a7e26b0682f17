pub mod Ascii
pub mod Rows
pub mod Sorted
pub mod Csv
pub mod Json
pub mod Ld
pub mod Listing
pub mod Worked
