pub mod Register
pub mod Shown
