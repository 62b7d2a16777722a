mod TableSteps
mod ElementSteps
mod PrintSteps
mod Refusals
mod TapSteps
mod TappedSteps
pub mod VersionSteps
pub mod OneAnswer
