pub mod Times
pub mod Greatest
pub mod Views
pub mod SoundLemmas
pub mod Keys
pub mod Least
pub mod Starts
pub mod OneStart
