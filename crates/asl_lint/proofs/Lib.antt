pub mod AllErrors
pub mod Broken
pub mod Errors
pub mod Found
pub mod Outcomes
pub mod Promises
pub mod Refusals
