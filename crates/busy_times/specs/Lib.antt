pub mod LatestEnds
pub mod BusyTimes
pub mod Draws
pub mod Profiles
