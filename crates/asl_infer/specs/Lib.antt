pub mod Declarations
pub mod Inferring
pub mod Lenient
pub mod Rounds
pub mod Tasks
pub mod Telling
