pub mod Calls
pub mod Look
pub mod Whole
