pub mod CycleSteps
pub mod OneText
pub mod RowSteps
pub mod Whole
