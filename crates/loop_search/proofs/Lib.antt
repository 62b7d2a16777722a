pub mod Closed
pub mod Marking
