pub mod Arguments
pub mod NumberLaws
pub mod Numbers
pub mod Seen
