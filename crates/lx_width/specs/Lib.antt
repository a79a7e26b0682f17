pub mod Shapes
pub mod Width
pub mod Worked
