pub mod Sound
pub mod Complete
pub mod Endable
pub mod Ranges
pub mod Printed
pub mod ReadPlans
pub mod Exact
