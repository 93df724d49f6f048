pub mod ReadLogs
pub mod EndCells
pub mod KeptTests
pub mod PlacedWired
pub mod SortedTests
pub mod FoundSpots
pub mod CountedBack
