pub mod Times
pub mod Tables
pub mod Choices
