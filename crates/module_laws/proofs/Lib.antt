pub mod DrivenOnce
pub mod InputPorts
pub mod Levels
pub mod Passing
pub mod Places
pub mod TextOrder
