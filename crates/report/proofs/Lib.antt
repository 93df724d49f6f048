pub mod Faster
pub mod Steps
pub mod Busy
pub mod Chained
pub mod Wired
pub mod GoodPlans
pub mod Whole
mod Rows
pub mod Shared
pub mod Held
