pub mod InDepth
pub mod Opened
pub mod Placing
pub mod Turns
