pub mod Adding
pub mod Coming
pub mod Exits
pub mod Given
pub mod Noted
pub mod Seeking
pub mod Visits
pub mod Way
