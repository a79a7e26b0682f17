pub mod Around
pub mod Each
