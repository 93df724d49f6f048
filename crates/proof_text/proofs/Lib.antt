pub mod Fills
pub mod SoundWords
pub mod CompleteWords
pub mod EndableWords
pub mod PrintedProofs
pub mod ProofTexts
