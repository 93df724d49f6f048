pub mod Improved
pub mod Procedures
pub mod Promises
pub mod Reports
pub mod SearchBasis
