pub mod Cases
pub mod Rankings
pub mod Bounds
pub mod Laws
pub mod Walks
pub mod ProofRooms
