pub mod SumLemmas
pub mod PairLemmas
pub mod SmallLemmas
pub mod RealisesLemmas
pub mod ReadyLemmas
pub mod MirroredLemmas
pub mod CostLemmas
