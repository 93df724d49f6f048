pub mod DataWords
pub mod DataReads
pub mod DataPlaces
pub mod DataAnswers
pub mod Suiting
pub mod Agreement
