pub mod Works
pub mod Modules
pub mod SoundWork
pub mod LeastWidths
pub mod Areas
pub mod Energies
pub mod Naming
pub mod ProfilePlaces
