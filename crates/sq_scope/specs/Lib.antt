pub mod Answers
pub mod Demands
pub mod Ranges
pub mod Scope
pub mod Tables
