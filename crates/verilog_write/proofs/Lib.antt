pub mod Writings
pub mod Digits
pub mod Whole
pub mod Small
