pub mod Exprs
pub mod Stmts
pub mod Grown
pub mod Placed
