pub mod Alone
pub mod BySignal
pub mod Folding
pub mod Freedom
pub mod FromKeeps
pub mod Listing
pub mod Lowerings
pub mod Masks
