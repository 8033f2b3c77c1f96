pub mod Counted
pub mod Json
pub mod Junit
pub mod Line
pub mod Report
pub mod Text
