pub mod OrderSteps
pub mod SimSteps
