pub mod Lists
pub mod BusRules
pub mod WrapperRules
pub mod PartRules
pub mod GoodParts
pub mod UsedModes
pub mod BusWidths
pub mod SettledBuses
pub mod PlanNumbers
pub mod LiveJobs
pub mod JobPrecedences
pub mod SoundJobs
pub mod Planned
pub mod Scheduled
pub mod WholePlans
mod Rows
pub mod OnePlan
