pub mod Kept
pub mod OtherBounds
pub mod InRange
pub mod Raised
