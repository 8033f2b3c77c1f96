pub mod Scripts
pub mod View
