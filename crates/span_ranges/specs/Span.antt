-- Streams whose values lie in a span.
use Rattle.std.specs.Prelude.{◌≡◌, ℕ, ℤ, pos, negsuc}
use Rattle.mr_values.specs.Sequence.{Sequence}
use Rattle.plan_laws.specs.Laws.{IsBetween}

-- the stream is 0 before it begins, and its values lie from `low` to `high`
pub record IsInSpan (low high : ℤ) (v : Sequence) : Type 0 where
  pub causal : (n : ℕ) → v (negsuc n) ≡ pos 0
  pub within : (k : ℤ) → IsBetween low high (v k)
