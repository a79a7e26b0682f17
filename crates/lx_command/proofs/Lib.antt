pub mod Deliveries
pub mod Edges
pub mod LineLemmas
pub mod Syntax
