pub mod Gain
pub mod Reach
pub mod Reading
pub mod Response
pub mod Summed
