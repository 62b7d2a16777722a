pub mod Spelled
pub mod Names
pub mod Writable
