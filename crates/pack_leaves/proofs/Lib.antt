pub mod Sums
pub mod Loads
pub mod Rows
pub mod Shares
