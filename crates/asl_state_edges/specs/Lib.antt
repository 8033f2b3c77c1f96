pub mod Entry
pub mod Items
pub mod Steps
pub mod View
pub mod Walks
