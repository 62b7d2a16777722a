pub mod Bits
pub mod Clipping
pub mod Held
pub mod Made
pub mod Map
pub mod Rounding
