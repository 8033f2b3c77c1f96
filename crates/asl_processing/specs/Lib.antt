pub mod Faults
pub mod Data
pub mod Flowing
pub mod Names
pub mod Leading
pub mod Activities
pub mod Troubles
pub mod Working
