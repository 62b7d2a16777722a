pub mod Drives
pub mod FirstCheck
pub mod Matching
pub mod SameChecks
pub mod SameRuns
pub mod Signals
pub mod Trees
pub mod Uses
