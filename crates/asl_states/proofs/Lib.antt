pub mod Branches
mod Found
pub mod Positions
mod Rewritten
