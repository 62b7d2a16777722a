pub mod AlikeLemmas
pub mod WeightLemmas
