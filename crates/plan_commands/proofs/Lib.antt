pub mod CompileSteps
pub mod Completeness
pub mod ExtremeSteps
pub mod MigrateSteps
pub mod NobleSteps
pub mod PlanTiming
pub mod RunSteps
