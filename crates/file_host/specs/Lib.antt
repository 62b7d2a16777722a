pub mod Open
pub mod Taken
