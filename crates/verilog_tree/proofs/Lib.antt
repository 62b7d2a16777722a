pub mod Powers
pub mod Views
pub mod Members
pub mod Parts
pub mod Settling
pub mod DependsOnReads
pub mod OneSettling
pub mod BitNumbers
pub mod Computes
pub mod Resets
mod WorkedRows
