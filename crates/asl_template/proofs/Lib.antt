pub mod Contexts
pub mod Firsts
pub mod Members
pub mod Parts
pub mod Telling
pub mod Values
pub mod Wholes
