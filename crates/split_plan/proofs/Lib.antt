pub mod Lists
pub mod CutTests
pub mod ChipOfParts
pub mod PartsAsTests
pub mod Profiles
pub mod PartLaws
pub mod PartContents
pub mod Making
