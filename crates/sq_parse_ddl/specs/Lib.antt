pub mod Ahead
pub mod Answers
pub mod Parts
pub mod PassedOver
pub mod Runs
pub mod Words
