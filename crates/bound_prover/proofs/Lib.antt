pub mod EqualLists
pub mod Kept
pub mod Nothing
pub mod Printing
