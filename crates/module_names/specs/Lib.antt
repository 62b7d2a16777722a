pub mod Names
pub mod Control
pub mod Ports
pub mod Outputs
pub mod Registers
