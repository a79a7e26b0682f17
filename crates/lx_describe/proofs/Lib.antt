pub mod Answering
mod Asked
mod Named
mod Pathed
mod Placed
mod Shapes
mod Unnamed
