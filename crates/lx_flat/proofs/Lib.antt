pub mod Arms
pub mod Flats
pub mod Items
pub mod Pieces
