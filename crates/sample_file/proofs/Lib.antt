pub mod FieldSteps
pub mod NumberSteps
pub mod LineSteps
pub mod CloseSteps
pub mod RangeSteps
pub mod PrintSteps
