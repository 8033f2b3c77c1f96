pub mod Items
pub mod Named
