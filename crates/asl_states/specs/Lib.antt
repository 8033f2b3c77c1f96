pub mod Kinds
pub mod Machine
pub mod Numbered
pub mod Targets
