pub mod CycleSteps
pub mod SignSteps
pub mod StreamSteps
pub mod StartSteps
pub mod Whole
pub mod OneText
