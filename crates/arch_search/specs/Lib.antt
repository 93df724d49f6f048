pub mod States
pub mod Settings
pub mod Searches
