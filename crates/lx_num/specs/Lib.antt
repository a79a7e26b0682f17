pub mod Bits
pub mod Fewest
pub mod Fields
pub mod Ints
pub mod Laws
