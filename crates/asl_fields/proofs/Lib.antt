pub mod Checks
pub mod Elements
pub mod Objects
pub mod Rules
pub mod Single
pub mod Templates
pub mod Told
pub mod Values
