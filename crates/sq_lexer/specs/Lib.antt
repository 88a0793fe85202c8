pub mod Machine
pub mod Reading
pub mod TokenList
pub mod Respelling
pub mod Printed
