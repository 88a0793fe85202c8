pub mod Brackets
pub mod Depth
pub mod Levels
pub mod Nests
pub mod Outputs
pub mod Words
