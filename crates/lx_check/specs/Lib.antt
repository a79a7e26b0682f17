pub mod Checked
pub mod Faults
pub mod Graphs
pub mod Loops
pub mod Marks
pub mod Orders
pub mod Worked
