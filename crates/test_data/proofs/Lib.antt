pub mod BitWords
pub mod NextWords
pub mod ReadTexts
pub mod ReadSteps
pub mod Firsts
pub mod ChipBits
pub mod SuitedData
pub mod AgreeingContents
