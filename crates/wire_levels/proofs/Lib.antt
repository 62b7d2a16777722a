pub mod Turns
pub mod ByLevel
pub mod SortedPlaces
