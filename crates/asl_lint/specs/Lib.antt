pub mod Linted
pub mod Reading
pub mod Tells
