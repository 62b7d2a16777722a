use Rattle.std.proofs.Common.{◌<◌, ◌∙◌, ℕ, List, length, get_or, set, sym, ap, subst}
use Rattle.std.proofs.lemmas.List.{take_at}
use Rattle.verilog_tree.specs.declared.tree.Signal.{Signal}
use Rattle.verilog_tree.specs.Names.{shapes_of}
use Rattle.verilog_tree.specs.View.{design_view}
use Rattle.clock_sim.proofs.Start.{unchanged, write_turn, blank, item_is, start_skips, start_past}
use Rattle.clock_sim.proofs.sim.initial_values.Goals.{then-is_register+then-next-initial, else-is_register, else-is_register-via-then-is_register+else-next-initial, else-is_register-via-else-is_register}
use Rattle.clock_sim.proofs.sim.initial_values.Goals as goal

pub loop-signal-preserved : goal.loop-signal-preserved
loop-signal-preserved c =
    let d = design_view c.args.design.now in
    let shapes = shapes_of d in
    let signals = c.args.design.now.signals.items in
    let patterns = c.args.initial.now in
    let k = c.loop-signal.signal-index in
    let s = get_or c.as_slice-signal-items.result.now k blank in
    let read = item_is blank c.as_slice-signal-items.result.now signals k c.as_slice-signal-items.ensures.value c.loop-signal-test.true in
    let lt = subst (λ (ss : List Signal). k < length ss) c.as_slice-signal-items.ensures.value c.loop-signal-test.true in
    let h = c.loop-signal.invariant.started in
    elim c.if-is_register.branch [
      | then-is_register+then-next-initial w ↦
          let x = get_or patterns c.loop-signal.next 0 in
          let written = ap (λ v. v.items) w.values-is ∙ take_at w.write.new.values _ c.loop-signal.values.len (w.write.auto.values ∙ w.deref_mut.ensures.len) ∙ w.write.ensures ∙ ap (λ (xs : List ℕ). set xs s.name x) w.deref_mut.ensures.value in
          write_turn d signals patterns k c.loop-signal.next c.loop-signal.values.items s h lt read c.requires.sound.formed.signals c.if-is_register.next c.if-is_register.values.items
          (sym c.is_register.ensures ∙ w.if-is_register.true) w.if-next-initial.true written w.next-is c.loop-signal.invariant.count
      | else-is_register w ↦
          let kept = ap (λ v. v.items) w.values-is in
          elim w.else-is_register.branch [
            | else-is_register-via-then-is_register+else-next-initial x ↦
                unchanged d signals patterns k c.loop-signal.next c.loop-signal.values.items c.if-is_register.next c.if-is_register.values.items kept w.next-is c.loop-signal.invariant.count
                (start_past shapes signals patterns k c.loop-signal.next c.loop-signal.values.items s h lt read x.if-next-initial.false)
            | else-is_register-via-else-is_register x ↦
                unchanged d signals patterns k c.loop-signal.next c.loop-signal.values.items c.if-is_register.next c.if-is_register.values.items kept w.next-is c.loop-signal.invariant.count
                (start_skips shapes signals patterns k c.loop-signal.next c.loop-signal.values.items s h lt read (sym c.is_register.ensures ∙ x.if-is_register.false))
          ]
    ]
