pub mod Each
pub mod EachJudged
pub mod Files
pub mod Folds
pub mod Marked
pub mod Ordered
pub mod Steps
pub mod Together
