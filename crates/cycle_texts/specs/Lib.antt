pub mod ProgramText
pub mod RowBlocks
pub mod Sources
pub mod UnderWay
pub mod Rows
