-- Cycles give exactly one text, and the outputs of every order show the same.
use Rattle.std.proofs.Common.{◌≡◌, ◌∙◌, ℕ, ◌+◌, ◌&&◌, not, List, [], ◌∷◌, ◌++◌, map, refl, sym, ap}
use Rattle.std.specs.Prelude.{◌==◌, if◌then◌else◌}
use Rattle.verilog_tree.specs.Tree.{Design}
use Rattle.verilog_tree.specs.Meaning.{Values}
use Rattle.verilog_tree.specs.Names.{shapes_of}
use Rattle.verilog_tree.specs.Cycle.{circuit_of}
use Rattle.verilog_tree.specs.Circuit.{Input, IsRun, IsSource}
use Rattle.verilog_tree.specs.Checks.{Passes}
use Rattle.verilog_tree.specs.Renaming.{AreDistinct}
use Rattle.verilog_tree.specs.Shown.{Cycle, Event, inputs_of, ports_of, signed_value, is_tick, event_of, events_of, ticks_after}
use Rattle.module_laws.specs.Running.{HasRuns}
use Rattle.sim_stream.specs.Given.{cycle_at}
use Rattle.module_laws.proofs.Levels.{loop_free}
use Rattle.module_laws.proofs.Passing.{passing_driven}
use Rattle.verilog_tree.proofs.OneSettling.{circuit_sound, circuit_loop_free}
use Rattle.event_order.proofs.EveryOrder.{one_run}
use Rattle.event_order.specs.Drawn.{declared_names, state_after_cycle, last_evaluated}
use Rattle.event_order.specs.Laws.{EveryStart, AreCyclesOf}
use Rattle.event_order.proofs.ReadNames.{out_valid_wire, out_data_wire}
use Rattle.order_stream.specs.Ordered.{Ordered, with_last, ordered_events, printed_orders}
use Rattle.order_stream.specs.Laws.{HasOneOrderedText, EveryOrderShows}

same_run : (d : Design) → Passes d → (a b : Values) (cycles : List (List Input)) (s t : List Values) → ((n : ℕ) → IsSource (circuit_of d) n → a n ≡ b n)
    → IsRun (circuit_of d) a cycles s → IsRun (circuit_of d) b cycles t → s ≡ t
same_run d passes a b cycles s t alike f g = one_run (circuit_of d) (circuit_sound d (passing_driven d passes)) (circuit_loop_free d (loop_free d passes.free)) cycles a b s t alike f g

pub one-ordered : (d : Design) → Passes d → HasRuns d → HasOneOrderedText d
one-ordered d passes runs content cycle tick state cycles =
    let first = runs content (map cycle_at cycles.items) in (
      printed_orders (ordered_events d (map cycle_at cycles.items) first.0 cycle tick state),
      record { settled = first.0; run = first.1; shown = refl; refused = refl },
      (λ other last g. g.shown ∙ ap (λ (settled : List Values). printed_orders (ordered_events d (map cycle_at cycles.items) settled cycle tick state))
          (same_run d passes content content (map (inputs_of (ports_of d)) (map cycle_at cycles.items)) g.settled first.0 (λ n source. refl) g.run first.1)),
    )

-- ---- without the last assignments

abbrev event : Ordered → Event
event o = o.event

without_last : (last : ℕ) (events : List Event) → map event (with_last last events) ≡ events
without_last last [] = refl
without_last last (e ∷ events) = ap (λ (es : List Event). e ∷ es) (without_last last events)

map_parts : (a b : List Ordered) → map event (a ++ b) ≡ map event a ++ map event b
map_parts [] b = refl
map_parts (o ∷ a) b = ap (λ (es : List Event). event o ∷ es) (map_parts a b)

same_events : (d : Design) (cycles : List Cycle) (settled : List Values) (cycle tick state : ℕ)
    → events_of (shapes_of d) (ports_of d) cycles settled cycle tick ≡ map event (ordered_events d cycles settled cycle tick state)
same_events d [] settled cycle tick state = refl
same_events d (c ∷ cycles) [] cycle tick state = refl
same_events d (c ∷ cycles) (values ∷ settled) cycle tick state =
    let here = event_of (shapes_of d) (ports_of d) c values cycle tick in
    let last = last_evaluated (circuit_of d) state in
    let next = state_after_cycle (circuit_of d) (declared_names d) values state in
    sym (map_parts (with_last last here) (ordered_events d cycles settled (cycle + 1) (ticks_after c tick) next)
    ∙ ap (λ (es : List Event). es ++ map event (ordered_events d cycles settled (cycle + 1) (ticks_after c tick) next)) (without_last last here)
    ∙ ap (λ (es : List Event). here ++ es) (sym (same_events d cycles settled (cycle + 1) (ticks_after c tick) next)))

-- ---- every order

-- what a cycle shows depends on its outputs alone
same_event : (d : Design) (c : Cycle) (v w : Values) (cycle tick : ℕ) → v (ports_of d).out_valid ≡ w (ports_of d).out_valid → v (ports_of d).out_data ≡ w (ports_of d).out_data
    → event_of (shapes_of d) (ports_of d) c v cycle tick ≡ event_of (shapes_of d) (ports_of d) c w cycle tick
same_event d c v w cycle tick valid out =
    ap (λ (x : ℕ). shown x (v (ports_of d).out_data)) valid ∙ ap (shown (w (ports_of d).out_valid)) out
  where
    shown : ℕ → ℕ → List Event
    shown valid out =
        if is_tick c && not (valid == 0)
        then record { cycle = cycle; tick = tick; value = signed_value ((shapes_of d).signed (ports_of d).out_data) ((shapes_of d).width (ports_of d).out_data) out } ∷ []
        else []

module _ (d : Design) (passes : Passes d) (distinct : AreDistinct d.names) where
  cycles_show : (cycles : List Cycle) (settled reads ends : List Values) → AreCyclesOf d settled reads ends → (cycle tick : ℕ)
      → events_of (shapes_of d) (ports_of d) cycles reads cycle tick ≡ events_of (shapes_of d) (ports_of d) cycles settled cycle tick
  cycles_show [] settled reads ends are cycle tick = refl
  cycles_show (c ∷ cycles) [] reads ends are cycle tick = ap (λ (rs : List Values). events_of (shapes_of d) (ports_of d) (c ∷ cycles) rs cycle tick) are.0
  cycles_show (c ∷ cycles) (values ∷ settled) reads ends (read, rest, end, later, is, is_end, one, more) cycle tick =
      ap (λ (rs : List Values). events_of (shapes_of d) (ports_of d) (c ∷ cycles) rs cycle tick) is
      ∙ ap (λ (es : List Event). es ++ events_of (shapes_of d) (ports_of d) cycles rest (cycle + 1) (ticks_after c tick))
      (same_event d c read values cycle tick (one.wires (ports_of d).out_valid (out_valid_wire d passes distinct)) (one.wires (ports_of d).out_data (out_data_wire d passes distinct)))
      ∙ ap (λ (es : List Event). event_of (shapes_of d) (ports_of d) c values cycle tick ++ es) (cycles_show cycles settled rest later more (cycle + 1) (ticks_after c tick))

  pub every-order : EveryStart d → EveryOrderShows d
  every-order every content begun cycles settled reads ends cycle tick state registers run orders =
      let are = every cycles content begun settled reads ends registers run orders in
      (cycles_show cycles settled reads ends are cycle tick ∙ same_events d cycles settled cycle tick state, are)
