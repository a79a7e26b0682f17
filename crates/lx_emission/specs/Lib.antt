pub mod Emission
pub mod Emits
pub mod Instance
pub mod Memories
pub mod Naming
pub mod Nodes
pub mod Signals
pub mod Texts
