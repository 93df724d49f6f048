pub mod CaseFacts
pub mod CaseBounds
pub mod BusLists
pub mod OpenSplits
pub mod ReadTrees
pub mod Faults
pub mod WidthFacts
