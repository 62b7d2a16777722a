-- A cycle before others.
use Rattle.std.proofs.Common.{◌≡◌, ◌∙◌, ℕ, ◌+◌, Bool, List, [], ◌∷◌, ◌++◌, map, Option, Result, Ok, refl, sym, ap, subst, append_assoc}
use Rattle.std.proofs.Math.Path.{fun_ext}
use Rattle.verilog_tree.specs.Tree.{Design}
use Rattle.verilog_tree.specs.Meaning.{Values}
use Rattle.verilog_tree.specs.Names.{shapes_of}
use Rattle.verilog_tree.specs.Circuit.{IsSettling, with_inputs, next}
use Rattle.verilog_tree.specs.Cycle.{circuit_of}
use Rattle.verilog_tree.specs.Shown.{Event, RunsOver, inputs_of, ports_of, event_of, ticks_after}
use Rattle.sample_file.specs.declared.fault.LineFault.{LineFault}
use Rattle.sample_file.specs.declared.ranges.Stimulus.{Stimulus}
use Rattle.sample_file.specs.declared.row.Row.{Row}
use Rattle.sample_file.specs.Ranges.{Checked, item_then, stimulus_of}
use Rattle.sim_stream.specs.Given.{Gives, cycle_at, printed_event, printed_events}
use Rattle.sim_stream.specs.Ends.{RunsCycle, cycle_in}

-- a row with the range of the port
pub row-is : (d : Design) (width : ℕ) (signed : Bool) (row : Row) (stimulus : Stimulus) → width ≡ (shapes_of d).width (ports_of d).in_data → signed ≡ (shapes_of d).signed (ports_of d).in_data
    → Ok stimulus ≡ stimulus_of width signed row → cycle_in d row ≡ Ok stimulus
row-is d width signed row stimulus is_width is_signed is =
    sym (is ∙ ap (λ (w : ℕ). stimulus_of w signed row) is_width ∙ ap (λ (s : Bool). stimulus_of ((shapes_of d).width (ports_of d).in_data) s row) is_signed)

printed-append : (a b : List Event) → printed_events (a ++ b) ≡ printed_events a ++ printed_events b
printed-append [] b = refl
printed-append (e ∷ a) b = ap (λ (text : List ℕ). printed_event e ++ text) (printed-append a b) ∙ sym (append_assoc (printed_event e) (printed_events a) (printed_events b))

module _ (d : Design) (old settled after : Values) (cycle tick ticks : ℕ) (row : Row) (stimulus : Stimulus) (line : List ℕ)
    (is_row : cycle_in d row ≡ Ok stimulus)
    (settles : IsSettling (circuit_of d) (with_inputs (inputs_of (ports_of d) (cycle_at stimulus)) old) settled)
    (steps : (name : ℕ) → after name ≡ next (circuit_of d) settled name)
    (is_line : line ≡ printed_events (event_of (shapes_of d) (ports_of d) (cycle_at stimulus) settled cycle tick))
    (is_ticks : ticks ≡ ticks_after (cycle_at stimulus) tick) where
  same_after : after ≡ next (circuit_of d) settled
  same_after = fun_ext steps

  before_others : (others : Checked Stimulus) (text : List ℕ) (last : Option LineFault) → Gives d after (cycle + 1) ticks others text last → Gives d old cycle tick (item_then (Ok stimulus) others) (line ++ text) last
  before_others others text last g = record {
    settled = settled ∷ g.settled;
    run = (settled, g.settled, refl, settles, subst (λ (content : Values). RunsOver d content (map cycle_at others.items) g.settled) same_after g.run);
    shown = rw (is_line, g.shown, is_ticks) (sym (printed-append _ _));
    refused = g.refused;
  }

  pub runs_cycle : RunsCycle d old cycle tick row after ticks line
  runs_cycle = record { gives = λ others text last g. subst (λ (first : Result Stimulus LineFault). Gives d old cycle tick (item_then first others) (line ++ text) last) (sym is_row) (before_others others text last g) }
