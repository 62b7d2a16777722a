pub mod Placed
pub mod Facts
pub mod Stage
pub mod Roots
pub mod Order
