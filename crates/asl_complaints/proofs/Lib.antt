pub mod Faults
pub mod Keywords
pub mod Parts
pub mod Telling
