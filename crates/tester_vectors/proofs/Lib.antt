pub mod ReadBits
pub mod TextPlaces
pub mod SameDrive
pub mod DrivenByText
pub mod Blocks
pub mod CycleLines
pub mod Rows
