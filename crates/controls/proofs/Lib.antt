pub mod Listing
pub mod Marking
pub mod Operations
pub mod Placed
pub mod Told
pub mod Counting
pub mod Saying
