pub mod Definition
pub mod Found
pub mod Gathering
pub mod Named
pub mod Place
pub mod Standing
pub mod Whole
