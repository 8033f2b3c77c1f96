pub mod Bytes
pub mod Cuts
pub mod Fields
pub mod Lent
pub mod Nodes
pub mod Reading
pub mod Room
