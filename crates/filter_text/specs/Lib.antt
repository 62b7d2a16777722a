pub mod Cascades
pub mod Headline
pub mod Registers
pub mod Runs
pub mod Written
pub mod Extremes
