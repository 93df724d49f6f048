pub mod Marks
pub mod VectorText
pub mod DrivenRuns
pub mod Lines
