pub mod Answer
pub mod Cutting
pub mod Meaning
pub mod Parts
pub mod View
