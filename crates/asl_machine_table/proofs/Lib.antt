pub mod Numbers
pub mod Rebuilt
