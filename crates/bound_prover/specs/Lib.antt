pub mod Procedures
pub mod Promises
pub mod Proved
pub mod Reports
