pub mod Fewest
pub mod Copies
