pub mod Operators
pub mod Refusal
pub mod Single
pub mod View
pub mod Walking
pub mod Whole
