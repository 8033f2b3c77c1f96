pub mod Changing
pub mod Counterexamples
pub mod Counting
pub mod Doubts
pub mod Kinds
pub mod Looking
pub mod Numbers
pub mod Putting
