-- Every order of a drawn cycle tells the same.
use Rattle.std.proofs.Common.{◌≡◌, ◌∙◌, ℕ, Bool, false, not, ◌&&◌, ◌+◌, length, map, get_or, slice_get, Option, None, Some, inl, refl, sym, ap, subst}
use Rattle.std.specs.Prelude.{◌==◌, is_some, unwrap_or}
use Rattle.std.specs.Option.{option_map_or}
use Rattle.std.proofs.Math.Path.{fun_ext}
use Rattle.verilog_tree.specs.Tree.{Design}
use Rattle.verilog_tree.specs.Checks.{Passes}
use Rattle.verilog_tree.specs.Meaning.{Values}
use Rattle.verilog_tree.specs.Circuit.{IsSettling, given_by, next, with_inputs}
use Rattle.verilog_tree.specs.Cycle.{circuit_of}
use Rattle.verilog_tree.specs.Renaming.{AreDistinct}
use Rattle.verilog_tree.specs.Shown.{Cycle, inputs_of, ports_of}
use Rattle.verilog_tree.proofs.OneSettling.{circuit_loop_free}
use Rattle.verilog_tree.proofs.Settling.{exactly_one}
use Rattle.module_laws.proofs.Levels.{loop_free}
use Rattle.event_order.specs.Drawn.{state_after, how_many, is_taken, drawn_places, evaluations, runs, is_given, drawn_steps, declared_names}
use Rattle.event_order.specs.Laws.{IsWire}
use Rattle.event_order.specs.Order.{Moment, Evaluate, Run, Update, CycleSteps, IsOrder}
use Rattle.event_order.proofs.Declared.{names_registers}
use Rattle.event_order.proofs.DrawnSteps.{drawn_is_order}
use Rattle.event_order.proofs.EveryOrder.{every_order, given_some}
use Rattle.event_order.proofs.Inputs.{of_cycle}
use Rattle.event_order.proofs.ReadNames.{out_valid_wire, out_data_wire}
use Rattle.event_order.proofs.Registers.{register_source, wire_driven, settles_same, given_same, next_same}
use Rattle.order_sim.specs.declared.sim.Seen.{Seen}
use Rattle.order_sim.specs.Cycle.{RunsDrawn}
use Rattle.order_sim.specs.Laws.{MayBegin, TellsCycle, EveryOrderTells}
use Rattle.order_sim.proofs.Passing.{passing_sound}

-- the drawn steps, by the names that are given a value
steps_by : Design → ℕ → (ℕ → Bool) → CycleSteps
steps_by d state given = record {
  settle = map Evaluate (drawn_places (evaluations (circuit_of d)) state (length (circuit_of d).drivers));
  edge = map Run (drawn_places (runs (circuit_of d)) (state_after state (length (circuit_of d).drivers)) (length (circuit_of d).processes));
  update = map (λ k. Update (get_or (declared_names d) k 0))
      (drawn_places (record { count = length (declared_names d); may = λ taken k. not (is_taken taken k) && given k }) (state_after state (length (circuit_of d).drivers + length (circuit_of d).processes)) (how_many given (length (declared_names d))));
}

by_given : (d : Design) (values : Values) (state : ℕ) → steps_by d state (is_given (circuit_of d) (declared_names d) values) ≡ drawn_steps (circuit_of d) (declared_names d) values state
unfolding steps_by
by_given d values state = refl

module _ (d : Design) (passes : Passes d) (distinct : AreDistinct d.names) where
  -- a wire is given no value by a block
  wire_stays : (v : Values) (n : ℕ) → IsWire d n → next (circuit_of d) v n ≡ v n
  wire_stays v n wire = by (given_by (circuit_of d).processes v n) refl
    where
      by : (o : Option ℕ) → given_by (circuit_of d).processes v n ≡ o → unwrap_or (given_by (circuit_of d).processes v n) (v n) ≡ v n
      by None is = ap (λ (o : Option ℕ). unwrap_or o (v n)) is
      by (Some x) is =
          let found = given_some (circuit_of d).processes v n x is in
          let driven = wire_driven d passes distinct n wire in
          absurd ((passing_sound d passes).registers found.0 found.1 v n x found.2 found.3 driven.0 driven.1 driven.2 driven.3)

  module _ (before wires after : Values) (state new_state : ℕ) (cycle : Cycle) (seen : Seen) (run : RunsDrawn d before state cycle seen wires after new_state) where
    module _ (start : Moment) (begins : MayBegin d before start) where
      abbrev Settles : Values → Type 0
      Settles v = IsSettling (circuit_of d) (with_inputs (inputs_of (ports_of d) cycle) start.values) v

      same_steps : (v : Values) → Settles v → drawn_steps (circuit_of d) (declared_names d) v state ≡ drawn_steps (circuit_of d) (declared_names d) wires state
      same_steps v settles =
          let given = fun_ext (λ n. ap is_some (given_same d passes distinct cycle start.values before v wires begins.same settles run.settling n)) in
          sym (by_given d v state) ∙ ap (λ (f : ℕ → Bool). steps_by d state (λ k. option_map_or f (slice_get (declared_names d) k) false)) given ∙ by_given d wires state

      drawn : (read : Moment) × (end : Moment) × IsOrder (circuit_of d) (inputs_of (ports_of d) cycle) start (drawn_steps (circuit_of d) (declared_names d) wires state) read end
      drawn =
          let one = exactly_one (circuit_of d) (passing_sound d passes) (circuit_loop_free d (loop_free d passes.free)) (with_inputs (inputs_of (ports_of d) cycle) start.values) in
          let order =
          drawn_is_order (circuit_of d) (passing_sound d passes) (circuit_loop_free d (loop_free d passes.free)) (declared_names d) (names_registers d passes) (inputs_of (ports_of d) cycle) start state one.0
          (of_cycle d passes distinct cycle) begins.is_start one.1 in
          (order.0, order.1, subst (λ (steps : CycleSteps). IsOrder (circuit_of d) (inputs_of (ports_of d) cycle) start steps order.0 order.1) (same_steps one.0 one.1) order.2)

      tells : (steps : CycleSteps) (read end : Moment) → IsOrder (circuit_of d) (inputs_of (ports_of d) cycle) start steps read end → TellsCycle d seen after read end
      tells steps read end order =
          let one = every_order (circuit_of d) (passing_sound d passes) (inputs_of (ports_of d) cycle) start steps read end (of_cycle d passes distinct cycle) begins.is_start order in
          let same = settles_same d passes distinct cycle start.values before read.values wires begins.same one.0 run.settling in
          record {
            valid = run.valid ∙ ap (λ (x : ℕ). not (x == 0)) (sym (same (ports_of d).out_valid (inl (out_valid_wire d passes distinct))));
            out_data = run.out_data ∙ sym (same (ports_of d).out_data (inl (out_data_wire d passes distinct)));
            wires = λ n wire. same n (inl wire) ∙ sym (run.next_values n ∙ wire_stays wires n wire);
            registers = λ n register.
                one.1 n (register_source d passes distinct n register) ∙ next_same d passes distinct cycle start.values before read.values wires begins.same one.0 run.settling n register ∙ sym (run.next_values n);
            is_start = one.2;
          }

    pub every_tells : EveryOrderTells d before state cycle seen wires after
    every_tells = record { tells = λ start steps read end begins order. tells start begins steps read end order; drawn = λ start begins. drawn start begins }
