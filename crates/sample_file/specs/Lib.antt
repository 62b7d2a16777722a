pub mod FaultLines
pub mod Lines
pub mod Fields
pub mod Reading
pub mod Kept
pub mod Printed
pub mod Ranges
