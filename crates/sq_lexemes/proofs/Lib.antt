pub mod Bounds
pub mod Chains
pub mod Ends
pub mod FrontLemmas
pub mod Sizes
pub mod Turns
