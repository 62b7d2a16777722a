pub mod TermLemmas
pub mod SmallLemmas
pub mod PhaseBounds
pub mod RegisterLemmas
pub mod RootLemmas
pub mod ShownLemmas
pub mod RealisesLemmas
pub mod CostLemmas
