pub mod Counted
pub mod Inside
pub mod Marked
pub mod Owners
pub mod Plain
