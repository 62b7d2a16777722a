pub mod Levels
pub mod Placed
