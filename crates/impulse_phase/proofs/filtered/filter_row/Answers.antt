use Rattle.std.proofs.Common.{rules, ◌≡◌, ◌+◌, ◌-◌, ◌<◌, pos, ◌-ℤ◌, get_or, length, ◌∙◌, arith}
use Rattle.std.proofs.lemmas.Int.{to_z-of_z}
use mir.Syntax.{w64}
use mir.Val.{SFits}
use Rattle.impulse_phase.specs.Reading.{responses_of}
use Rattle.impulse_phase.proofs.Sums.{combined-back, room-back}
use Rattle.impulse_phase.proofs.Tables.{filter_row_is, row_of, count_of}
use Rattle.impulse_phase.proofs.filtered.filter_row.Goals as goal

pub add_tap-requires-clause-room : goal.add_tap-requires-clause-room
add_tap-requires-clause-room c =
    let k = c.loop-left.left - 1 in
    let t : SFits w64 (get_or c.args.taps.now k (pos 0)) = search rules in
    let next : c.loop-left.left ≡ k + 1 = omega (arith, c.loop-left-test.true) in
    simp to_z-of_z (room-back (responses_of c.args.table.now (pos c.args.index)).newest c.args.taps.now (λ i. responses_of c.args.table.now (pos c.args.index -ℤ pos i)) c.requires.room.0
    c.loop-left.left k c.loop-left.weights.items (λ i. c.requires.room.1 (pos c.args.index -ℤ pos i)) c.requires.room.2 next c.loop-left.invariant.within c.loop-left.invariant.sum)

pub loop-left-preserved : goal.loop-left-preserved
loop-left-preserved c =
    let k = c.loop-left.left - 1 in
    let t : SFits w64 (get_or c.args.taps.now k (pos 0)) = search rules in
    let next : c.loop-left.left ≡ k + 1 = omega (arith, c.loop-left-test.true) in
    let added_is = simp to_z-of_z at c.in_ok-add_tap.ensures in
    record {
      sum = added_is ∙ combined-back (responses_of c.args.table.now (pos c.args.index)).newest c.args.taps.now (λ i. responses_of c.args.table.now (pos c.args.index -ℤ pos i))
          c.loop-left.left k c.loop-left.weights.items next c.loop-left.invariant.within c.loop-left.invariant.sum;
      within = omega (arith, c.loop-left.invariant.within);
    }

pub returns : goal.returns
returns c =
    let below : c.args.index < length c.args.table.now.rows.items = omega (arith, c.requires.index, count_of c.args.table.now) in
    filter_row_is c.args.table.now c.args.taps.now c.args.index c.loop-left.left c.index.result.now c.loop-left.weights.items c.requires.index
    (row_of c.args.table.now c.args.index c.index.result.now below c.index.ensures) (omega (arith, c.loop-left-test.false)) c.loop-left.invariant.sum
