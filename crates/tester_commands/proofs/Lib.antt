pub mod CaptureCounts
pub mod ChipParts
pub mod ContentTexts
pub mod DataBits
pub mod DataFiles
pub mod DataOfContents
pub mod Kept
pub mod LongVectors
pub mod MadeEndings
pub mod MadeLines
pub mod MadeTexts
pub mod Names
mod ProgramTexts
pub mod ReadBack
pub mod RefusedRuns
pub mod RetargetTexts
pub mod RightData
pub mod RightLoads
pub mod RightTexts
pub mod SaidBits
pub mod SameLoads
pub mod SentTexts
mod ShortRuns
pub mod SmallParts
pub mod Stepping
pub mod SuitingEntries
