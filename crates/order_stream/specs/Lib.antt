pub mod Ends
pub mod Laws
pub mod Ordered
pub mod Stream
