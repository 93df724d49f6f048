pub mod Sessions
pub mod Chips
pub mod Packed
pub mod Rings
pub mod Lanes
pub mod Machines
pub mod WholeChips
