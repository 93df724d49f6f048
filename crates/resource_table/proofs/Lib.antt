pub mod Steps
pub mod Rewinding
pub mod Placed
pub mod Emptying
pub mod Fitting
pub mod KeptTables
pub mod Latest
pub mod PlacedTimes
pub mod KeptMarks
pub mod KeptStarts
pub mod Befores
pub mod Ready
pub mod Schedules
pub mod Bounds
pub mod Restarts
mod Rows
