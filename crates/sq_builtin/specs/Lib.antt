pub mod Entries
pub mod Functions
pub mod Groups
pub mod Operators
pub mod Rows
