pub mod Tokens
pub mod ProofLines
pub mod Grammar
pub mod Words
pub mod PartValues
pub mod Reads
pub mod Answers
pub mod TextLaws
