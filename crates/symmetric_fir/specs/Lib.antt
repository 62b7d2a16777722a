pub mod Pairs
pub mod Facts
pub mod Front
