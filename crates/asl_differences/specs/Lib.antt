pub mod Misfits
pub mod Places
