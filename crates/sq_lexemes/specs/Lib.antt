pub mod Answers
pub mod Cursor
pub mod Levels
pub mod Readings
pub mod Reads
pub mod Words
pub mod Whole
