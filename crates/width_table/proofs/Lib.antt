pub mod Work
pub mod LeastWidths
pub mod TableLaws
pub mod TestTimes
pub mod WorkedRows
