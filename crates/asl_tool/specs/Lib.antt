pub mod Inferred
pub mod VerifiedInference
