pub mod Declaring
pub mod Entered
pub mod Fielded
pub mod Shaped
pub mod Streamed
