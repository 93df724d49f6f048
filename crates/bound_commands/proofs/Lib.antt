pub mod BoundFiles
pub mod Drawings
pub mod Kept
pub mod ProofFiles
pub mod TreeFiles
