pub mod Cascade
pub mod Facts
pub mod Phases
pub mod Pieces
pub mod Registers
