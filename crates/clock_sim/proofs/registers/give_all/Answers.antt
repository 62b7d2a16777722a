use Rattle.std.proofs.Common.{◌∙◌, ◌+◌, ℕ, List, length, get_or, drop, sym, subst}
use Rattle.std.proofs.lemmas.Option.{slice_get-get_or}
use Rattle.clock_sim.specs.Simulated.{values_of}
use Rattle.clock_sim.specs.Blocks.{taken, targets_within}
use Rattle.clock_sim.proofs.Tables.{get_or-any}
use Rattle.clock_sim.proofs.FlatBlocks.{EachGiven, each_turn, no_register, within_at}
use Rattle.clock_sim.proofs.registers.give_all.Goals as goal

pub write-requires : goal.write-requires
write-requires c =
    within_at (length c.loop-place.values) c.args.each.now c.loop-place.place no_register
    (subst (λ (n : ℕ). targets_within n c.args.each.now) (sym c.loop-place.invariant.count) c.requires.inside.each) c.loop-place-test.true

pub loop-place-preserved : goal.loop-place-preserved
loop-place-preserved c =
    let each = c.args.each.now in
    let k = c.loop-place.place in
    let old = values_of c.args.values.now in
    let r = get_or each k no_register in
    let inside = within_at (length c.loop-place.values) each k no_register (subst (λ (n : ℕ). targets_within n each) (sym c.loop-place.invariant.count) c.requires.inside.each) c.loop-place-test.true in
    record {
      count = c.write.auto.values ∙ c.loop-place.invariant.count;
      given = subst (λ (xs : List ℕ). EachGiven (taken old) each (drop (k + 1) each) old (values_of xs)) (sym c.write.ensures)
          (each_turn (taken old) each old k r c.loop-place.values (get_or c.args.pending.now k 0) c.loop-place.invariant.given c.loop-place-test.true (get_or-any each k no_register r c.loop-place-test.true) inside (c.requires.pending.each k r (slice_get-get_or each k no_register c.loop-place-test.true)));
    }
