-- The registers that are given a value, by the flags of names.
use Rattle.std.proofs.Common.{◌≡◌, ℕ, ◌<◌, Bool, false, ◌||◌, List, Option, length, get_or, replicate, refl, sym, ap, ◌∙◌}
use Rattle.std.specs.Prelude.{is_some}
use Rattle.std.specs.Option.{option_map, option_map_or}
use Rattle.std.proofs.lemmas.Option.{slice_get-map, slice_get_read}
use Rattle.verilog_tree.specs.declared.tree.Signal.{Signal}
use Rattle.verilog_tree.specs.Meaning.{Values}
use Rattle.verilog_tree.specs.Circuit.{given_by}
use Rattle.verilog_tree.specs.Cycle.{circuit_of}
use Rattle.verilog_tree.specs.Tree.{Design}
use Rattle.settle_order.specs.Placing.{opened_of}
use Rattle.clock_sim.specs.Simulated.{Marked}
use Rattle.event_order.specs.Drawn.{is_given}
use Rattle.order_sim.specs.Drawing.{signal_names}
use Rattle.order_sim.proofs.Flags.{none_set}

pub mark_tells : (d : Design) (v : Values) (cleared marks : List Bool) (n i : ℕ) (s : Signal) → cleared ≡ replicate n false → Marked (given_by (circuit_of d).processes v) (opened_of cleared) (opened_of marks)
    → i < length d.signals → s ≡ get_or d.signals i s → opened_of marks s.name ≡ is_given (circuit_of d) (signal_names d) v i
mark_tells d v cleared marks n i s clear marked lt read =
    let at = slice_get-map (λ (s : Signal). s.name) d.signals i ∙ ap (option_map (λ (s : Signal). s.name)) (slice_get_read d.signals (length d.signals) i s refl lt read) in
    marked.each s.name
    ∙ ap (λ (b : Bool). b || is_some (given_by (circuit_of d).processes v s.name)) (ap (λ (xs : List Bool). opened_of xs s.name) clear ∙ none_set n s.name)
    ∙ sym (ap (λ (o : Option ℕ). option_map_or (λ (r : ℕ). is_some (given_by (circuit_of d).processes v r)) o false) at)
