pub mod Added
pub mod LedStates
pub mod TakenUp
pub mod Told
