-- The bits of a span hold each value in it.
use Rattle.std.proofs.Common.{ℕ, ◌-◌, ◌^◌, arith, ℤ, ◌≤ℤ◌, ◌<ℤ◌}
use Rattle.std.proofs.lemmas.Int.{ints}
use Rattle.distributed_table.specs.Facts.{HaveBits}
use Rattle.mr_values.specs.Sequence.{Sequence}
use Rattle.mr_values.specs.Width.{FitsWidth, IsLeastWidth}
use Rattle.plan_check.specs.declared.facts.GroupFacts.{GroupFacts}
use Rattle.plan_laws.specs.Laws.{IsBetween}
use Rattle.stage_law.specs.Streams.{Streams}
use Rattle.chain_build.specs.Prefixes.{AreInSpan}

-- ---- bits of a span

between-fits : (w : ℕ) (low high z : ℤ) → FitsWidth w low → FitsWidth w high → IsBetween low high z → FitsWidth w z
between-fits w low high z l h is = record { low = omega (arith, ints, l.low, is.least); high = omega (arith, ints, h.high, is.greatest) }

pub span-bits : (streams : Streams) (fact : GroupFacts) (w : ℕ) → IsLeastWidth fact.span_lo fact.span_hi w → AreInSpan streams fact → HaveBits streams w
span-bits streams fact w least inside = record { each = λ v is k. between-fits w fact.span_lo fact.span_hi (v k) least.holds_low least.holds_high ((inside v is).within k) }
