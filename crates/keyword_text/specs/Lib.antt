pub mod Tokens
pub mod Texts
pub mod Machines
pub mod Reads
pub mod Laws
pub mod Lines
