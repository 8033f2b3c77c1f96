pub mod Opened
pub mod Samples
pub mod Tasks
