pub mod Rounds
pub mod Cells
pub mod Slots
pub mod Control
pub mod Copies
pub mod Accumulators
pub mod Operands
pub mod Sums
