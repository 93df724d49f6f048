pub mod Chips
pub mod Modes
pub mod Lookups
pub mod Faults
pub mod Sizes
pub mod SoundChips
