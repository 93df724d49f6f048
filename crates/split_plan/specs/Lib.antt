pub mod Cuts
pub mod Parts
pub mod Laws
pub mod Steps
