pub mod DoubtfulRules
pub mod NarrowedParts
pub mod NarrowedTests
pub mod Settlings
pub mod StillFound
pub mod TestedKinds
