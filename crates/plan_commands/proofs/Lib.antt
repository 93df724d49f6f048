mod Joining
pub mod Kept
mod LiveCounts
mod LogFiles
mod MadeLimits
mod NamedTests
mod PartsServed
mod ProgramAnswers
mod Reported
mod WidthLines
