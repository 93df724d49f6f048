pub mod Controls
pub mod Tests
pub mod Spells
pub mod Columns
pub mod Said
