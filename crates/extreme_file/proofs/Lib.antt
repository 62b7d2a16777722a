pub mod Numerals
pub mod Lines
