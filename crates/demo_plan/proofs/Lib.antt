pub mod States
pub mod Accepted
pub mod Tallies
pub mod Values
pub mod Fitting
