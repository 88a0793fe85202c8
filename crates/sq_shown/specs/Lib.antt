pub mod Forms
pub mod Identifiers
pub mod Layout
pub mod Lines
pub mod Names
pub mod Signature
pub mod Words
