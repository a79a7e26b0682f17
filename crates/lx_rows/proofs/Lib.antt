pub mod OperatorTexts
pub mod Whole
pub mod Forms
