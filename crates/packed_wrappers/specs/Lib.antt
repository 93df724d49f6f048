pub mod Tables
pub mod Times
