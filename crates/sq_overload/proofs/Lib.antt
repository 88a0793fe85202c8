pub mod Accepted
pub mod Agreements
pub mod Kept
pub mod Shortness
pub mod TableTypes
pub mod TypeTests
