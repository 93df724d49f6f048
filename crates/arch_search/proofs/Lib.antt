pub mod Beginnings
pub mod Wires
pub mod Searching
pub mod Changed
