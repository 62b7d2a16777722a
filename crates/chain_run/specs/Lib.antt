pub mod Outputs
pub mod Ticks
pub mod Given
pub mod Stream
pub mod Ends
