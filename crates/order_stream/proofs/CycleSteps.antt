-- A cycle before others.
use Rattle.std.proofs.Common.{◌≡◌, ◌∙◌, ℕ, ◌+◌, List, [], ◌∷◌, ◌++◌, map, Option, Result, Ok, refl, sym, ap, subst, append_assoc}
use Rattle.std.proofs.Math.Path.{fun_ext}
use Rattle.verilog_tree.specs.Tree.{Design}
use Rattle.verilog_tree.specs.Meaning.{Values}
use Rattle.verilog_tree.specs.Names.{shapes_of}
use Rattle.verilog_tree.specs.Circuit.{next}
use Rattle.verilog_tree.specs.Cycle.{circuit_of}
use Rattle.verilog_tree.specs.Shown.{RunsOver, ports_of, event_of, ticks_after}
use Rattle.sample_file.specs.declared.fault.LineFault.{LineFault}
use Rattle.sample_file.specs.declared.ranges.Stimulus.{Stimulus}
use Rattle.sample_file.specs.declared.row.Row.{Row}
use Rattle.sample_file.specs.Ranges.{Checked, item_then}
use Rattle.sim_stream.specs.Given.{cycle_at}
use Rattle.sim_stream.specs.Ends.{cycle_in}
use Rattle.event_order.specs.Drawn.{declared_names, state_after_cycle, last_evaluated}
use Rattle.order_sim.specs.declared.sim.Seen.{Seen}
use Rattle.order_sim.specs.Cycle.{RunsDrawn}
use Rattle.order_stream.specs.Ordered.{Ordered, with_last, ordered_events, printed_ordered, printed_orders, GivesOrdered}
use Rattle.order_stream.specs.Ends.{RunsCycle}

printed-append : (a b : List Ordered) → printed_orders (a ++ b) ≡ printed_orders a ++ printed_orders b
printed-append [] b = refl
printed-append (o ∷ a) b = ap (λ (text : List ℕ). printed_ordered o ++ text) (printed-append a b) ∙ sym (append_assoc (printed_ordered o) (printed_orders a) (printed_orders b))

module _ (d : Design) (old wires after : Values) (cycle tick ticks state new_state : ℕ) (row : Row) (stimulus : Stimulus) (seen : Seen) (line : List ℕ)
    (is_row : cycle_in d row ≡ Ok stimulus)
    (runs : RunsDrawn d old state (cycle_at stimulus) seen wires after new_state)
    (is_line : line ≡ printed_orders (with_last seen.last (event_of (shapes_of d) (ports_of d) (cycle_at stimulus) wires cycle tick)))
    (is_ticks : ticks ≡ ticks_after (cycle_at stimulus) tick) where
  same_after : after ≡ next (circuit_of d) wires
  same_after = fun_ext runs.next_values

  before_others : (others : Checked Stimulus) (text : List ℕ) (last : Option LineFault) → GivesOrdered d after (cycle + 1) ticks new_state others text last
      → GivesOrdered d old cycle tick state (item_then (Ok stimulus) others) (line ++ text) last
  before_others others text last g =
      let here = event_of (shapes_of d) (ports_of d) (cycle_at stimulus) wires cycle tick in
      let rest = ordered_events d (map cycle_at others.items) g.settled (cycle + 1) (ticks_after (cycle_at stimulus) tick) (state_after_cycle (circuit_of d) (declared_names d) wires state) in
      let first = is_line ∙ ap (λ (n : ℕ). printed_orders (with_last n here)) runs.last in
      let second = g.shown
      ∙ ap (λ (n : ℕ). printed_orders (ordered_events d (map cycle_at others.items) g.settled (cycle + 1) n new_state)) is_ticks
      ∙ ap (λ (n : ℕ). printed_orders (ordered_events d (map cycle_at others.items) g.settled (cycle + 1) (ticks_after (cycle_at stimulus) tick) n)) runs.next_state in
      record {
        settled = wires ∷ g.settled;
        run = (wires, g.settled, refl, runs.settling, subst (λ (content : Values). RunsOver d content (map cycle_at others.items) g.settled) same_after g.run);
        shown = ap (λ (xs : List ℕ). xs ++ text) first ∙ ap (λ (xs : List ℕ). printed_orders (with_last (last_evaluated (circuit_of d) state) here) ++ xs) second
            ∙ sym (printed-append (with_last (last_evaluated (circuit_of d) state) here) rest);
        refused = g.refused;
      }

  pub runs_cycle : RunsCycle d old cycle tick state row after ticks new_state line
  runs_cycle = record { gives = λ others text last g. subst (λ (first : Result Stimulus LineFault). GivesOrdered d old cycle tick state (item_then first others) (line ++ text) last) (sym is_row) (before_others others text last g) }
