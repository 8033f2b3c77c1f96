pub mod Reading
pub mod Rows
pub mod Telling
pub mod Verdicts
pub mod View
