pub mod Between
pub mod Ends
pub mod Spans
pub mod Peaks
pub mod Errors
pub mod Reach
pub mod Passes
