mod BlockRows
mod UnderWay
mod LineCuts
mod SourceRows
mod BlockParts
mod WholeText
pub mod VectorRows
