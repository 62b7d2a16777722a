pub mod Adding
pub mod Drives
pub mod Early
pub mod Faces
pub mod Found
pub mod Telling
pub mod Uses
pub mod Widths
