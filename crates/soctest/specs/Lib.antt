pub mod Commands
pub mod Headlines
pub mod Reports
