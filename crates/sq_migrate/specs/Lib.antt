pub mod Asked
pub mod Columns
pub mod Labels
pub mod Naming
pub mod Refused
pub mod Replay
pub mod Types
