pub mod Parsed
pub mod Values
pub mod View
pub mod Whole
pub mod Written
