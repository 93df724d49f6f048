pub mod Pieces
pub mod TextWords
pub mod PrintedWords
pub mod LastChanges
pub mod Steps
pub mod ModuleReads
pub mod LineWords
pub mod ReadBack
