pub mod Given
pub mod Stream
pub mod Ends
pub mod Laws
