pub mod Fewest
pub mod Formed
pub mod Forming
pub mod Known
pub mod Pieces
