pub mod Arguments
pub mod Calls
pub mod DataChanges
pub mod Groups
pub mod Inside
pub mod Logic
pub mod Selects
pub mod World
