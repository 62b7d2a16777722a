use Rattle.std.proofs.Common.{◌≡◌, ◌+◌, ◌-◌, ◌*◌, sym, ◌∙◌, subst, arith}
use Rattle.running_sums.specs.Sums.{AreWithin}
use Rattle.impulse_phase.proofs.MovingRows.{part_none, part_all, part_more, part_within, more_room}
use Rattle.impulse_phase.proofs.summed.add_part.Goals as goal

pub add_row-requires-clause-room : goal.add_row-requires-clause-room
add_row-requires-clause-room c =
    let part = c.args.part.now in
    let most = c.requires.room.0 in
    let limit = c.requires.room.1 in
    let done = part.count - c.loop-left.left in
    let is = c.deref.ensures.value ∙ c.loop-left.invariant.sum in
    let within = part_within c.args.table.now (part.back + c.loop-left.left) part.rounds done most limit c.args.sums.items c.requires.table c.requires.room.2 c.requires.room.3 in (
      most,
      done * (part.rounds * most) + limit,
      c.requires.room.2,
      subst (AreWithin (done * (part.rounds * most) + limit)) (sym is) within,
      more_room part.count c.loop-left.left (part.rounds * most) limit c.loop-left-test.true c.loop-left.invariant.within c.requires.room.4,
    )

pub loop-left-preserved : goal.loop-left-preserved
loop-left-preserved c =
    let part = c.args.part.now in
    let k = c.loop-left.left - 1 in
    let is = c.deref.ensures.value ∙ c.loop-left.invariant.sum in
    let next : c.loop-left.left ≡ k + 1 = omega (arith, c.loop-left-test.true) in
    record {
      sum = part_more c.args.table.now part.back part.rounds part.count c.loop-left.left k c.deref.result.now c.in_ok-all.all.items c.args.sums.items next c.loop-left.invariant.within is c.in_ok-all.ensures;
      within = omega (arith, c.loop-left.invariant.within);
    }

pub loop-left-init : goal.loop-left-init
loop-left-init c = record { sum = part_none c.args.table.now c.args.part.now.back c.args.part.now.rounds c.args.part.now.count c.args.sums.items; within = omega arith }

pub returns : goal.returns
returns c =
    let part = c.args.part.now in
    part_all c.args.table.now part.back part.rounds part.count c.loop-left.left c.loop-left.all.items c.args.sums.items (omega (arith, c.loop-left-test.false)) c.loop-left.invariant.sum
