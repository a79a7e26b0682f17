pub mod Below
pub mod Trees
pub mod Stmts
pub mod NodeLists
pub mod Modules
pub mod Growth
