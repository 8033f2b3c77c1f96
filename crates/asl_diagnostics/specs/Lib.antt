pub mod Github
pub mod Line
pub mod Listed
pub mod Order
pub mod Rules
pub mod Sarif
pub mod Statement
