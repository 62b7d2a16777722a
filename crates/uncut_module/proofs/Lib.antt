pub mod ControlNames
pub mod Blocks
pub mod Indexed
pub mod Wires
pub mod Cycle
pub mod Along
