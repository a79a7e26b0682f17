pub mod Calls
pub mod Classes
pub mod Loops
pub mod Meant
pub mod Running
pub mod Signs
pub mod Worked
