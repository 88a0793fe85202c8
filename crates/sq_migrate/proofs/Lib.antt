pub mod Gathered
pub mod NamesAsked
pub mod NamesReplayed
pub mod ReplayKept
pub mod TypesAsked
