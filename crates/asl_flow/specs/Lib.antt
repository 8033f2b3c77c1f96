pub mod CallAnswer
pub mod Doubts
pub mod Elements
pub mod Items
pub mod Leaving
pub mod Sources
pub mod TemplateAnswer
