pub mod Exactly
pub mod RunTurns
