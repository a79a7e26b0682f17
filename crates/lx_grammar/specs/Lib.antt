pub mod Ahead
pub mod Derives
pub mod Grammar
pub mod Numbers
pub mod Pick
pub mod Reads
pub mod Signs
