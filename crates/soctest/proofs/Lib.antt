pub mod Commands
pub mod SameCommand
