pub mod OpenedShapes
pub mod Entries
pub mod Joined
