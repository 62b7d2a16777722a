pub mod Compile
pub mod Extreme
pub mod Migrate
pub mod Noble
pub mod Run
