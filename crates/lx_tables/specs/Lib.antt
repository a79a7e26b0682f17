pub mod Operators
pub mod PythonWords
pub mod VerilogWords
pub mod WordTables
