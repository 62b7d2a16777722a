pub mod Simulated
pub mod Sim
pub mod Tables
pub mod Steps
pub mod Blocks
