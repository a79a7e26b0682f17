mod Bodies
pub mod Chains
pub mod Mentions
mod Placed
