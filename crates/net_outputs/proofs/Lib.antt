pub mod RegisterLemmas
pub mod ShownLemmas
