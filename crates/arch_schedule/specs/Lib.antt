pub mod Problems
pub mod Times
pub mod Buses
pub mod Rooms
pub mod Kinds
pub mod Dealing
