pub mod View
pub mod Begun
pub mod StatementView
pub mod StatementBegun
pub mod TextView
