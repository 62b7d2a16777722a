use Rattle.std.proofs.Common.{◌≡◌, ◌<◌, ◌≤◌, ◌∙◌, ℕ, true, false, List, [], ◌∷◌, ◌++◌, Some, length, get_or, slice_get, refl, sym, ap, arith, rules, subst, add-one}
use Rattle.std.proofs.lemmas.List.{length-set}
use Rattle.std.proofs.lemmas.Option.{slice_get_read}
use Rattle.draws.specs.Draw.{next_state}
use Rattle.verilog_tree.specs.declared.tree.Module.{Module}
use Rattle.verilog_tree.specs.Circuit.{put, Driver}
use Rattle.verilog_tree.specs.Cycle.{circuit_of}
use Rattle.verilog_tree.specs.View.{design_view}
use Rattle.settle_order.specs.Placing.{opened_of}
use Rattle.clock_sim.specs.Simulated.{values_of}
use Rattle.event_order.specs.Drawn.{state_after, drawn_places, is_taken, evaluations}
use Rattle.event_order.proofs.Counting.{count-most}
use Rattle.event_order.proofs.DrawnSteps.{place_there}
use Rattle.order_sim.specs.declared.readers.Readers.{Readers}
use Rattle.order_sim.specs.Drawing.{reading_places, times, AreUndone, AreCountedDown, IsDrawing}
use Rattle.order_sim.proofs.Passing.{passing_sound, passing_proceeds, driver_count}
use Rattle.order_sim.proofs.Reading.{few_readers}
use Rattle.order_sim.proofs.Settling.{SettlesTo, settles_first, settles_more, settles_all}
use Rattle.order_sim.proofs.Turns.{turn_drawn, taken_next, last_next, drawing_first, drawing_more, flagged_without, readers_undone, enough, some_ready, nth_there, all_drawn}
use Rattle.order_sim.proofs.drawing.settle_drawn.Goals as goal

pub loop-turn-init : goal.loop-turn-init
loop-turn-init c =
    let C = circuit_of (design_view c.args.sim.now.design) in
    record {
      design = refl;
      many = refl;
      state = refl;
      last = refl;
      drawing = drawing_first C c.args.reads.now c.copy_from_slice.new.self c.flag_first-count.new.flags c.flag_first-count.result c.requires.reads.count c.requires.reads.each c.copy_from_slice.ensures.after
          (c.flag_first-count.auto.flags ∙ c.requires.flags ∙ sym c.requires.waits ∙ sym c.copy_from_slice.auto.self) c.flag_first-count.ensures.set c.flag_first-count.ensures.count;
      settles = settles_first C (values_of c.args.sim.now.values);
    }

pub nonzero_rem-drawn : goal.nonzero_rem-drawn
nonzero_rem-drawn c =
    let d = design_view c.args.sim.now.design in
    let many = c.requires.reads.count in
    some_ready (circuit_of d) (passing_proceeds d c.requires.sound.passes) c.args.number c.loop-turn._turn c.loop-turn.waiting c.loop-turn.ready c.loop-turn.count
    (omega (arith, many, c.loop-turn-test.true)) c.loop-turn.invariant.drawing

pub nth_set-last-requires : goal.nth_set-last-requires
nth_set-last-requires c =
    let d = design_view c.args.sim.now.design in
    let many = c.requires.reads.count in
    let some = some_ready (circuit_of d) (passing_proceeds d c.requires.sound.passes) c.args.number c.loop-turn._turn c.loop-turn.waiting c.loop-turn.ready c.loop-turn.count
    (omega (arith, many, c.loop-turn-test.true)) c.loop-turn.invariant.drawing in
    nth_there (circuit_of d) (drawn_places (evaluations (circuit_of d)) c.args.number c.loop-turn._turn) c.loop-turn.waiting c.loop-turn.ready c.loop-turn.count c.loop-turn.invariant.drawing c.draw-next.result.1 some

pub evaluate-requires : goal.evaluate-requires
evaluate-requires c =
    let d = design_view c.args.sim.now.design in
    let C = circuit_of d in
    let many = c.requires.reads.count in
    let t = c.loop-turn._turn in
    let h = c.loop-turn.invariant in
    let lt : t < length C.drivers = omega (arith, many, c.loop-turn-test.true) in
    let turn = turn_drawn C (passing_proceeds d c.requires.sound.passes) c.args.number t c.loop-turn.state c.draw-next.result.1 c.nth_set-last.result c.loop-turn.waiting c.loop-turn.ready c.loop-turn.count
    lt h.drawing h.state c.draw-next.ensures.number c.nth_set-last.ensures in
    let drivers = driver_count c.args.sim.now.design in
    let assigns = ap (λ (m : Module). length m.assigns.items) h.design in
    omega (arith, turn.may.inside, drivers, assigns)

pub bounds-ready-last : goal.bounds-ready-last
bounds-ready-last c =
    let d = design_view c.args.sim.now.design in
    let C = circuit_of d in
    let many = c.requires.reads.count in
    let t = c.loop-turn._turn in
    let h = c.loop-turn.invariant in
    let lt : t < length C.drivers = omega (arith, many, c.loop-turn-test.true) in
    let turn = turn_drawn C (passing_proceeds d c.requires.sound.passes) c.args.number t c.loop-turn.state c.draw-next.result.1 c.nth_set-last.result c.loop-turn.waiting c.loop-turn.ready c.loop-turn.count
    lt h.drawing h.state c.draw-next.ensures.number c.nth_set-last.ensures in
    omega (arith, turn.may.inside, h.drawing.flags_many)

pub offset_bounds-readers-last : goal.offset_bounds-readers-last
offset_bounds-readers-last c =
    let d = design_view c.args.sim.now.design in
    let C = circuit_of d in
    let many = c.requires.reads.count in
    let t = c.loop-turn._turn in
    let h = c.loop-turn.invariant in
    let lt : t < length C.drivers = omega (arith, many, c.loop-turn-test.true) in
    let turn = turn_drawn C (passing_proceeds d c.requires.sound.passes) c.args.number t c.loop-turn.state c.draw-next.result.1 c.nth_set-last.result c.loop-turn.waiting c.loop-turn.ready c.loop-turn.count
    lt h.drawing h.state c.draw-next.ensures.number c.nth_set-last.ensures in
    let inside : c.nth_set-last.result < length c.args.readers.now = omega (arith, turn.may.inside, c.requires.readers.count) in
    search rules

pub bounds-readers-last : goal.bounds-readers-last
bounds-readers-last c =
    let d = design_view c.args.sim.now.design in
    let C = circuit_of d in
    let many = c.requires.reads.count in
    let t = c.loop-turn._turn in
    let h = c.loop-turn.invariant in
    let lt : t < length C.drivers = omega (arith, many, c.loop-turn-test.true) in
    let turn = turn_drawn C (passing_proceeds d c.requires.sound.passes) c.args.number t c.loop-turn.state c.draw-next.result.1 c.nth_set-last.result c.loop-turn.waiting c.loop-turn.ready c.loop-turn.count
    lt h.drawing h.state c.draw-next.ensures.number c.nth_set-last.ensures in
    omega (arith, turn.may.inside, c.requires.readers.count)

pub overflow_sub-count : goal.overflow_sub-count
overflow_sub-count c =
    let d = design_view c.args.sim.now.design in
    let many = c.requires.reads.count in
    some_ready (circuit_of d) (passing_proceeds d c.requires.sound.passes) c.args.number c.loop-turn._turn c.loop-turn.waiting c.loop-turn.ready c.loop-turn.count
    (omega (arith, many, c.loop-turn-test.true)) c.loop-turn.invariant.drawing

pub release-count-requires-clause-enough : goal.release-count-requires-clause-enough
release-count-requires-clause-enough c =
    let d = design_view c.args.sim.now.design in
    let C = circuit_of d in
    let many = c.requires.reads.count in
    let t = c.loop-turn._turn in
    let h = c.loop-turn.invariant in
    let lt : t < length C.drivers = omega (arith, many, c.loop-turn-test.true) in
    let turn = turn_drawn C (passing_proceeds d c.requires.sound.passes) c.args.number t c.loop-turn.state c.draw-next.result.1 c.nth_set-last.result c.loop-turn.waiting c.loop-turn.ready c.loop-turn.count
    lt h.drawing h.state c.draw-next.ensures.number c.nth_set-last.ensures in
    let taken = drawn_places (evaluations C) c.args.number t in
    let last = c.nth_set-last.result in
    let inside : last < length c.args.readers.now = omega (arith, turn.may.inside, c.requires.readers.count) in
    let at = slice_get_read c.args.readers.now (length c.args.readers.now) last c.index-readers-last.result refl inside c.index-readers-last.is in
    let same : c.as_slice.result.now ≡ reading_places C last (length C.drivers) = c.as_slice.ensures.value ∙ ap (λ (r : Readers). r.places.items) (sym c.index-readers-last.is) ∙ c.requires.readers.each last c.index-readers-last.result at in
    λ k. subst (λ (xs : List ℕ). times xs k ≤ get_or c.loop-turn.waiting k 0) (sym same) (enough C taken c.loop-turn.waiting c.loop-turn.ready c.loop-turn.count h.drawing last turn.may k)

pub release-count-requires-clause-room : goal.release-count-requires-clause-room
release-count-requires-clause-room c =
    let d = design_view c.args.sim.now.design in
    let C = circuit_of d in
    let many = c.requires.reads.count in
    let t = c.loop-turn._turn in
    let h = c.loop-turn.invariant in
    let lt : t < length C.drivers = omega (arith, many, c.loop-turn-test.true) in
    let turn = turn_drawn C (passing_proceeds d c.requires.sound.passes) c.args.number t c.loop-turn.state c.draw-next.result.1 c.nth_set-last.result c.loop-turn.waiting c.loop-turn.ready c.loop-turn.count
    lt h.drawing h.state c.draw-next.ensures.number c.nth_set-last.ensures in
    let taken = drawn_places (evaluations C) c.args.number t in
    let last = c.nth_set-last.result in
    let inside : last < length c.args.readers.now = omega (arith, turn.may.inside, c.requires.readers.count) in
    let at = slice_get_read c.args.readers.now (length c.args.readers.now) last c.index-readers-last.result refl inside c.index-readers-last.is in
    let same : c.as_slice.result.now ≡ reading_places C last (length C.drivers) = c.as_slice.ensures.value ∙ ap (λ (r : Readers). r.places.items) (sym c.index-readers-last.is) ∙ c.requires.readers.each last c.index-readers-last.result at in
    let few = few_readers C last (length C.drivers) in
    let size = ap length same in
    let most = count-most (opened_of c.loop-turn.ready) (length c.loop-turn.waiting) in
    omega (arith, few, size, most, h.drawing.flagged.counted, h.drawing.waiting_many, many)

pub loop-turn-preserved : goal.loop-turn-preserved
loop-turn-preserved c =
    let d = design_view c.args.sim.now.design in
    let C = circuit_of d in
    let many = c.requires.reads.count in
    let t = c.loop-turn._turn in
    let h = c.loop-turn.invariant in
    let lt : t < length C.drivers = omega (arith, many, c.loop-turn-test.true) in
    let turn = turn_drawn C (passing_proceeds d c.requires.sound.passes) c.args.number t c.loop-turn.state c.draw-next.result.1 c.nth_set-last.result c.loop-turn.waiting c.loop-turn.ready c.loop-turn.count
    lt h.drawing h.state c.draw-next.ensures.number c.nth_set-last.ensures in
    let taken = drawn_places (evaluations C) c.args.number t in
    let last = c.nth_set-last.result in
    let inside : last < length c.args.readers.now = omega (arith, turn.may.inside, c.requires.readers.count) in
    let at = slice_get_read c.args.readers.now (length c.args.readers.now) last c.index-readers-last.result refl inside c.index-readers-last.is in
    let same : c.as_slice.result.now ≡ reading_places C last (length C.drivers) = c.as_slice.ensures.value ∙ ap (λ (r : Readers). r.places.items) (sym c.index-readers-last.is) ∙ c.requires.readers.each last c.index-readers-last.result at in
    let next = taken_next C c.args.number t last turn in
    let driver = place_there C.drivers last turn.may.inside in
    let value = subst (λ (m : Module). (e : Driver) → slice_get (circuit_of (design_view m)).drivers last ≡ Some e → values_of c.evaluate.new.self.values ≡ put (values_of c.loop-turn.sim.values) e.target (e.value (values_of c.loop-turn.sim.values)))
    h.design c.evaluate.ensures.value in
    let down = subst (λ (xs : List ℕ). AreCountedDown xs c.loop-turn.waiting c.release-count.new.waiting) same c.release-count.ensures.down in
    let undone = readers_undone C taken c.loop-turn.waiting c.loop-turn.ready c.loop-turn.count h.drawing last turn.may h.settles.moment h.settles.evaluations in
    let flagged = c.release-count.ensures.flags (is_taken (taken ++ last ∷ []))
    (flagged_without C taken c.loop-turn.waiting c.loop-turn.ready c.loop-turn.count h.drawing last turn.may)
    (subst (AreUndone (is_taken (taken ++ last ∷ []))) (sym same) undone) in
    let waiting_many = c.release-count.auto.waiting ∙ h.drawing.waiting_many in
    let flags_many = c.release-count.auto.flags ∙ length-set c.loop-turn.ready last false ∙ h.drawing.flags_many in
    record {
      design = c.evaluate.ensures.design ∙ h.design;
      many = c.evaluate.ensures.count ∙ h.many;
      state = c.draw-next.ensures.state ∙ ap next_state h.state ∙ sym (ap (state_after c.args.number) (add-one t));
      last = last_next C c.args.number t last turn;
      drawing = subst (λ (ts : List ℕ). IsDrawing C ts c.release-count.new.waiting c.release-count.new.flags c.release-count.result) next
          (drawing_more C taken c.loop-turn.waiting c.loop-turn.ready c.loop-turn.count h.drawing last turn.may c.release-count.new.waiting c.release-count.new.flags c.release-count.result waiting_many flags_many down flagged);
      settles = subst (λ (ts : List ℕ). SettlesTo C (values_of c.args.sim.now.values) ts (values_of c.evaluate.new.self.values)) next
          (settles_more C (passing_sound d c.requires.sound.passes) (values_of c.args.sim.now.values) taken (values_of c.loop-turn.sim.values) (values_of c.evaluate.new.self.values) last driver.0 driver.1
          turn.may.untaken turn.may.closed (value driver.0 driver.1) h.settles);
    }

pub returns-clause-settled : goal.returns-clause-settled
returns-clause-settled c =
    let d = design_view c.args.sim.now.design in
    let C = circuit_of d in
    let end : c.loop-turn._turn ≡ length C.drivers = omega (arith, c.requires.reads.count, c.loop-turn-test.false, c.loop-turn.auto._turn-end) in
    settles_all C (values_of c.args.sim.now.values) (drawn_places (evaluations C) c.args.number c.loop-turn._turn) (values_of c.loop-turn.sim.values)
    (subst (λ (n : ℕ). (k : ℕ) → k < length C.drivers → is_taken (drawn_places (evaluations C) c.args.number n) k ≡ true) (sym end) (all_drawn C (passing_proceeds d c.requires.sound.passes) c.args.number))
    c.loop-turn.invariant.settles
