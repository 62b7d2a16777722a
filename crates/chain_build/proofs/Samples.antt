-- Samples of a width.
use Rattle.std.proofs.Common.{◌≡◌, ℕ, List, refl, sym, subst, ℤ}
use Rattle.std.specs.Prelude.{All}
use Rattle.mr_values.specs.Sequence.{Sequence, samples}
use Rattle.mr_values.specs.Timing.{input}
use Rattle.mr_values.specs.Width.{FitsWidth}
use Rattle.plan_laws.proofs.Spans.{within-samples}
use Rattle.span_ranges.specs.Span.{IsInSpan}

-- a list of numbers that fit the width, and 0 outside
pub record AreSamples (width : ℕ) (v : Sequence) : Type 0 where
  pub xs : List ℤ
  pub fit : All (FitsWidth width) xs
  pub are : v ≡ samples xs

pub the_samples : {width : ℕ} (xs : List ℤ) → All (FitsWidth width) xs → AreSamples width (samples xs)
the_samples xs fit = record { xs = xs; fit = fit; are = refl }

-- ---- samples lie in the span of the input

pub samples-inside : (width ticks : ℕ) (v : Sequence) → AreSamples width v → IsInSpan (input width ticks).low (input width ticks).high v
samples-inside width ticks v h = subst (IsInSpan (input width ticks).low (input width ticks).high) (sym h.are) (record { causal = λ n. refl; within = (within-samples width ticks h.xs h.fit).values })
