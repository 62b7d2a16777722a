use Rattle.std.proofs.Common.{◌≡◌, ℕ, ◌≤◌, ◌*◌, ◌^◌, max, subst, sym, arith, rules}
use Rattle.std.specs.Prelude.{unsigned_abs}
use Rattle.std.proofs.lemmas.Int.{to_z-of_z}
use mir.Syntax.{w128}
use mir.Val.{SFits}
use Rattle.stage_law.specs.Rising.{factors_in}
use Rattle.stage_law.specs.Streams.{magnitudes}
use Rattle.span_ranges.proofs.SpanLemmas.{room_of, IsRange-sum}
use Rattle.span_ranges.proofs.span.SpanRangesRanges.range.Goals as goal

pub least_weighted-requires : goal.least_weighted-requires
least_weighted-requires c =
    let l : SFits w128 c.args.self.now.low = search rules in
    let h : SFits w128 c.args.self.now.high = search rules in
    simp to_z-of_z (room_of c.args.self.now.low c.args.self.now.high c.args.sum.now c.as_slice-weights.result.now c.as_slice-weights.ensures.value c.args.self.now.below c.args.self.now.above c.requires.room)

pub least_weighted-requires-2 : goal.least_weighted-requires-2
least_weighted-requires-2 c =
    let l : SFits w128 c.args.self.now.low = search rules in
    let h : SFits w128 c.args.self.now.high = search rules in
    let room = room_of c.args.self.now.low c.args.self.now.high c.args.sum.now c.as_slice-weights.result.now c.as_slice-weights.ensures.value c.args.self.now.below c.args.self.now.above c.requires.room in
    let turned : max (unsigned_abs c.args.self.now.high) (unsigned_abs c.args.self.now.low) ≡ max (unsigned_abs c.args.self.now.low) (unsigned_abs c.args.self.now.high) = omega arith in
    simp to_z-of_z (subst (λ (m : ℕ). m * magnitudes (factors_in c.as_slice-weights.result.now) ≤ 2 ^ 126) (sym turned) room)

pub returns : goal.returns
returns c =
    let l : SFits w128 c.args.self.now.low = search rules in
    let h : SFits w128 c.args.self.now.high = search rules in
    let a : SFits w128 c.least_weighted.result = search rules in
    let b : SFits w128 c.least_weighted-2.result = search rules in
    let lo = simp to_z-of_z at c.least_weighted.ensures in
    let hi = simp to_z-of_z at c.least_weighted-2.ensures in
    IsRange-sum c.args.sum.now c.as_slice-weights.result.now c.args._class c.args.self.now.low c.args.self.now.high _ c.as_slice-weights.ensures.value c.args.self.now.below c.args.self.now.above c.requires.class (simp to_z-of_z lo) (simp to_z-of_z hi)
