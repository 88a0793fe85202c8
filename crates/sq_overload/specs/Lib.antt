pub mod CommonType
pub mod Converts
pub mod Domains
pub mod Laws
pub mod Masks
pub mod Resolution
