pub mod Entries
pub mod Places
pub mod Nearby
pub mod Parents
pub mod Sums
pub mod Limits
