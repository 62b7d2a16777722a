pub mod WholeReads
pub mod AssignedKinds
pub mod Exists
