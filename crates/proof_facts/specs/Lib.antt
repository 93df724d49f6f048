pub mod Packed
pub mod Fronts
pub mod Times
pub mod Tables
pub mod Exclusions
pub mod Marks
pub mod Rows
