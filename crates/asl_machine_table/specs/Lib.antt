pub mod Held
pub mod Rebuilding
pub mod Table
