pub mod Completeness
