pub mod Furthest
pub mod Prefix
pub mod Walk
