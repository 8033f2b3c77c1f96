pub mod Kinds
pub mod Narrowed
pub mod Settling
