pub mod Parts
pub mod Filled
pub mod Laws
pub mod OneOrder
pub mod Heap
pub mod Follow
pub mod Alone
pub mod Chains
pub mod Limits
pub mod Shortest
mod Steady
pub mod Rows
