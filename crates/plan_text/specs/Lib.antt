pub mod Tokens
pub mod PlanLines
pub mod Grammar
pub mod Steps
pub mod PartValues
pub mod Reads
pub mod Answers
pub mod Laws
