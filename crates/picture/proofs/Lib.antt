pub mod AllDrawn
pub mod Apart
pub mod Joining
pub mod LanesApart
mod OneMore
pub mod PartsOfPlans
pub mod Readable
pub mod SelfTests
pub mod Starts
mod StartsCounted
pub mod ToldApart
pub mod BusWires
