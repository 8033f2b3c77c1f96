pub mod Built
pub mod Numbered
pub mod Reading
pub mod Refusal
pub mod Telling
