pub mod Costs
pub mod Report
