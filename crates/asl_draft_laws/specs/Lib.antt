pub mod Cutting
pub mod Drafts
pub mod Fits
pub mod Resting
