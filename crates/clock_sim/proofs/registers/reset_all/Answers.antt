use Rattle.std.proofs.Common.{◌∙◌, ◌+◌, ℕ, List, length, get_or, drop, refl, sym, subst}
use Rattle.clock_sim.specs.declared.registers.Register.{Register}
use Rattle.clock_sim.specs.Simulated.{values_of}
use Rattle.clock_sim.specs.Blocks.{targets_within}
use Rattle.clock_sim.proofs.Tables.{get_or-any}
use Rattle.clock_sim.proofs.FlatBlocks.{EachGiven, each_turn, no_register, within_at}
use Rattle.clock_sim.proofs.registers.reset_all.Goals as goal

pub write-requires : goal.write-requires
write-requires c =
    within_at (length c.loop-register.values) c.args.each.now c.loop-register.register-index no_register
    (subst (λ (n : ℕ). targets_within n c.args.each.now) (sym c.loop-register.invariant.count) c.requires.each) c.loop-register-test.true

pub loop-register-preserved : goal.loop-register-preserved
loop-register-preserved c =
    let each = c.args.each.now in
    let k = c.loop-register.register-index in
    let old = values_of c.args.values.now in
    let r = get_or each k no_register in
    let inside = within_at (length c.loop-register.values) each k no_register (subst (λ (n : ℕ). targets_within n each) (sym c.loop-register.invariant.count) c.requires.each) c.loop-register-test.true in
    record {
      count = c.write.auto.values ∙ c.loop-register.invariant.count;
      given = subst (λ (xs : List ℕ). EachGiven (λ (r : Register). r.initial) each (drop (k + 1) each) old (values_of xs)) (sym c.write.ensures)
          (each_turn (λ (r : Register). r.initial) each old k r c.loop-register.values r.initial c.loop-register.invariant.given c.loop-register-test.true (get_or-any each k no_register r c.loop-register-test.true) inside refl);
    }
