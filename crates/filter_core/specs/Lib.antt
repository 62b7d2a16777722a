pub mod Answers
pub mod CommandWords
pub mod FaultLines
pub mod Statuses
pub mod Tool
