mod Spans
mod Emptying
mod Near
pub mod Profiles
pub mod Ordered
mod Marked
mod Gaps
mod Sweeps
mod FittingSteps
