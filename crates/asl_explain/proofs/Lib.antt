pub mod Findings
pub mod Yes
