pub mod Counts
pub mod Told
pub mod Misfits
pub mod Inputs
pub mod Children
