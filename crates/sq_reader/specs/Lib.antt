pub mod Parts
pub mod Gives
pub mod Forms
pub mod Items
pub mod Columns
pub mod Reading
pub mod Answer
pub mod Readable
