-- The limits of the numbers of an accepted plan.
use Rattle.std.proofs.Common.{ℕ, zero, suc, ◌+◌, ◌-◌, ◌≤◌, ◌^◌, List, [], ◌∷◌, length, sym, subst, arith}
use Rattle.std.specs.Prelude.{All}
use Rattle.mr_values.specs.declared.plan.Element.{Element}
use Rattle.mr_values.specs.declared.plan.Element.TheVariants.{Up, Down, Filter, CicDown, CicUp, Round, Clip}
use Rattle.mr_values.specs.declared.plan.Plan.{Plan}
use Rattle.mr_values.specs.Timing.{Group, Stream, groups, input, after, after_all}
use Rattle.mr_values.specs.Value.{size, IsWithinLimits}
use Rattle.plan_check.specs.Accepted.{IsAccepted, no_tally}
use Rattle.plan_check.specs.Costs.{Tally, tally_after}
use Rattle.plan_check.specs.Groups.{size_of, IsGroup, IsSplit}
use Rattle.plan_check.proofs.GroupSplit.{IsSplit-fir, IsSplit-cic_down, IsSplit-cic_up, IsSplit-round, IsSplit-clip}
use Rattle.plan_laws.proofs.Passes.{passes_of}
use Rattle.chain_build.proofs.SoFar.{size_least, size_most}
use Rattle.chain_build.proofs.Walk.{IsWalk, walk_start, walk_next}
use Rattle.chain_run.specs.Outputs.{IsTiming}
use Rattle.plan_commands.specs.Run.{plan_timing}

-- ---- groups within their limits

abbrev AreGroups : List Group → Type 0
AreGroups [] = Unit {0}
AreGroups (g ∷ gs) = IsGroup g × AreGroups gs

record HasSplit (elements : List Element) : Type 0 where
  group : Group
  rest : List Element
  split : IsSplit elements group rest

split_of : (e : Element) (es : List Element) → All IsWithinLimits (e ∷ es) → HasSplit (e ∷ es)
split_of (Up factor) es h = record { group = _; rest = _; split = IsSplit-fir (Up factor ∷ es) tt h }
split_of (Down factor) es h = record { group = _; rest = _; split = IsSplit-fir (Down factor ∷ es) tt h }
split_of (Filter taps form) es h = record { group = _; rest = _; split = IsSplit-fir (Filter taps form ∷ es) tt h }
split_of (CicDown factor stages delay) es h = record { group = _; rest = _; split = IsSplit-cic_down factor stages delay es h }
split_of (CicUp factor stages delay) es h = record { group = _; rest = _; split = IsSplit-cic_up factor stages delay es h }
split_of (Round shift mode) es h = record { group = _; rest = _; split = IsSplit-round shift mode es h }
split_of (Clip bits) es h = record { group = _; rest = _; split = IsSplit-clip bits es h }

are_groups : (n : ℕ) (elements : List Element) → length elements ≤ n → All IsWithinLimits elements → AreGroups (groups elements)
are_groups n [] few h = tt
are_groups zero (e ∷ es) few h = absurd (omega arith)
are_groups (suc n) (e ∷ es) few h =
    let s = split_of e es h in
    subst AreGroups (sym s.split.parts) (s.split.within, are_groups n s.rest (omega (arith, s.split.size, s.split.some)) s.split.limits)

-- ---- the last stream

record IsShort (s : Stream) : Type 0 where
  positive : 1 ≤ s.period
  long : s.period ≤ 2 ^ 31 - 1
  early : s.offset + 1 ≤ 2 ^ 31 - 1

walk_all : (ticks first : ℕ) (t : Tally) (gs : List Group) (s : Stream) → AreGroups gs → IsWalk ticks first t gs s → IsShort (after_all gs s)
walk_all ticks first t [] s each walk = record { positive = walk.positive; long = walk.long; early = walk.early }
walk_all ticks first t (g ∷ gs) s each walk = walk_all ticks (first + size_of g) (tally_after ticks g t) gs (after g s) each.1 (walk_next each.0 walk)

pub timing-limits : (plan : Plan) → IsAccepted plan → IsTiming (plan_timing plan)
timing-limits plan accepted =
    let p = passes_of plan accepted in
    let wide : 2 ≤ size plan.width = size_least plan.width 2 p.limits.width_low in
    let narrow : size plan.width ≤ 64 = size_most plan.width 64 p.limits.width_high in
    let some : 1 ≤ size plan.ticks = size_least plan.ticks 1 p.limits.ticks_low in
    let most : size plan.ticks ≤ 65536 = size_most plan.ticks 65536 p.limits.ticks_high in
    let last = walk_all (size plan.ticks) 1 (no_tally (size plan.width) (size plan.ticks)) (groups plan.elements) (input (size plan.width) (size plan.ticks)) (are_groups (length plan.elements) plan.elements (omega arith) p.limits.elements)
    (walk_start (size plan.width) (size plan.ticks) (groups plan.elements) wide narrow some most p.rates p.peaks p.costs) in
    record {
      least_width = wide;
      most_width = narrow;
      least_ticks = some;
      most_ticks = most;
      most_latency = omega (arith, last.early);
      least_period = last.positive;
      most_period = omega (arith, last.long);
    }
