pub mod Asking
pub mod Coverage
pub mod Judging
pub mod Playing
pub mod Stepping
pub mod Taking
