pub mod Folds
pub mod Lower
