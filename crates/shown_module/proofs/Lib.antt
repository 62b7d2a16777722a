pub mod Data
pub mod Each
pub mod Ticks
pub mod Places
