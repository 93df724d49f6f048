pub mod Greatest
pub mod Knapsacks
pub mod Sharings
