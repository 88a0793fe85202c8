pub mod CommandLine
pub mod Configuration
pub mod Json
pub mod KeyPaths
pub mod Meaning
pub mod Outs
pub mod Paths
pub mod Shape
