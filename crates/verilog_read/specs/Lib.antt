pub mod Reader
pub mod Places
pub mod Answer
pub mod FaultLines
