pub mod Found
pub mod Best
pub mod Marks
pub mod Known
pub mod Lexed
