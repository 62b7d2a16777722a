-- Cycles give exactly one text, since there is one settling for each of them.
use Rattle.std.proofs.Common.{◌≡◌, ◌∙◌, List, [], ◌∷◌, map, refl, sym, ap, subst}
use Rattle.std.proofs.Math.Path.{fun_ext}
use Rattle.verilog_tree.specs.Tree.{Design}
use Rattle.verilog_tree.specs.Meaning.{Values}
use Rattle.verilog_tree.specs.Names.{shapes_of}
use Rattle.verilog_tree.specs.Circuit.{Input, IsRun, with_inputs, next}
use Rattle.verilog_tree.specs.Cycle.{circuit_of}
use Rattle.verilog_tree.specs.Laws.{HasOneSettling}
use Rattle.verilog_tree.specs.Shown.{inputs_of, ports_of, events_of}
use Rattle.module_laws.specs.Running.{HasRuns}
use Rattle.sim_stream.specs.Given.{cycle_at, printed_events}
use Rattle.sim_stream.specs.Laws.{HasOneText}

one-run : (d : Design) → HasOneSettling d → (content : Values) (cycles : List (List Input)) (a b : List Values) → IsRun (circuit_of d) content cycles a → IsRun (circuit_of d) content cycles b → a ≡ b
one-run d one content [] a b p q = p ∙ sym q
one-run d one content (inputs ∷ cycles) a b p q =
    let only = (one (with_inputs inputs content)).2 in
    let same : q.0 ≡ p.0 = fun_ext (λ n. only q.0 q.3 n ∙ sym (only p.0 p.3 n)) in
    let rest = one-run d one (next (circuit_of d) p.0) cycles p.1 q.1 p.4 (subst (λ (values : Values). IsRun (circuit_of d) (next (circuit_of d) values) cycles q.1) same q.4) in
    p.2 ∙ ap (λ (values : Values). values ∷ p.1) (sym same) ∙ ap (λ (others : List Values). q.0 ∷ others) rest ∙ sym q.2

pub one-text : (d : Design) → HasOneSettling d → HasRuns d → HasOneText d
one-text d one runs content cycle tick cycles =
    let first = runs content (map cycle_at cycles.items) in (
      printed_events (events_of (shapes_of d) (ports_of d) (map cycle_at cycles.items) first.0 cycle tick),
      record { settled = first.0; run = first.1; shown = refl; refused = refl },
      (λ other last g. g.shown ∙ ap (λ (settled : List Values). printed_events (events_of (shapes_of d) (ports_of d) (map cycle_at cycles.items) settled cycle tick))
          (one-run d one content (map (inputs_of (ports_of d)) (map cycle_at cycles.items)) g.settled first.0 g.run first.1)),
    )
