pub mod Parts
pub mod Placement
pub mod Refusal
pub mod View
