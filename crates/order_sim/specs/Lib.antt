pub mod Cycle
pub mod Drawing
pub mod Laws
