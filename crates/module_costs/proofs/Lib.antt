pub mod Prefixes
pub mod Sums
pub mod Written
pub mod Depths
