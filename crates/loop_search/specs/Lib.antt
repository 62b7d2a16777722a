pub mod Dependents
pub mod Loops
