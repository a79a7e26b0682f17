pub mod Alone
pub mod Lowers
pub mod Ports
pub mod Puts
pub mod Worked
pub mod WorkedAlone
