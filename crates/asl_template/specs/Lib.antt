pub mod Failing
pub mod Field
pub mod Refusal
pub mod View
pub mod Whole
