pub mod Folders
pub mod Seen
