pub mod RawSteps
pub mod Seen
