pub mod Chains
pub mod Exactly
pub mod Froms
pub mod Fronts
