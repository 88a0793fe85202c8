pub mod Layers
pub mod QueryFacts
pub mod TreeHeights
pub mod TreeTurns
pub mod WeightNames
pub mod WeightQueries
pub mod WeightTrees
pub mod Weights
