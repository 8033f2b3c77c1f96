pub mod Integers
pub mod Parsed
pub mod Texts
pub mod Tokens
pub mod Values
pub mod Views
pub mod Wholes
