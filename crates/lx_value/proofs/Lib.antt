pub mod Binding
pub mod NumberLawsShown
pub mod Patterns
pub mod Ranges
pub mod Repeats
