-- What a run gives where its module shows a chain.
use Rattle.std.proofs.Common.{◌≡◌, ◌∙◌, ℕ, zero, suc, ◌+◌, ◌-◌, ◌≤◌, true, false, List, [], ◌∷◌, length, map, Option, Result, Ok, Err, ℤ, pos, refl, ap, subst, arith}
use Rattle.std.proofs.Math.Path.{fun_ext}
use Rattle.std.specs.List.{range_with_len}
use Rattle.mr_values.specs.declared.plan.Element.{Element}
use Rattle.mr_values.specs.Sequence.{Sequence, samples}
use Rattle.mr_values.specs.Timing.{ceil_div}
use Rattle.mr_values.specs.Value.{val, chain}
use Rattle.verilog_tree.specs.Tree.{Design}
use Rattle.verilog_tree.specs.Meaning.{Values}
use Rattle.verilog_tree.specs.Names.{shapes_of}
use Rattle.verilog_tree.specs.Circuit.{IsSettling, with_inputs, next}
use Rattle.verilog_tree.specs.Cycle.{circuit_of}
use Rattle.verilog_tree.specs.Shown.{Cycle, Event, RunsOver, inputs_of, ports_of, events_of}
use Rattle.net_module.specs.Steps.{pair_of, ticks_in}
use Rattle.filter_text.specs.Headline.{ShowsChain, outputs_from, outputs_within}
use Rattle.filter_text.specs.Runs.{IsRunFrom, samples_in}
use Rattle.sample_file.specs.declared.fault.LineFault.{LineFault}
use Rattle.sample_file.specs.declared.row.Row.{Row}
use Rattle.sample_file.specs.Ranges.{Checked, checked, item_then, sample_of, samples_of}
use Rattle.sample_file.specs.Reading.{Place, Reading, start, rows_from, file_rows}
use Rattle.verilog_tree.specs.declared.tree.Module.{Module}
use Rattle.verilog_tree.specs.View.{design_view}
use Rattle.chain_run.specs.declared.timing.ChainTiming.{ChainTiming}
use Rattle.chain_run.specs.Given.{ShowsLines, Gives}
use Rattle.chain_run.specs.Outputs.{IsTiming, IsRunText, file_samples, printed_lines, value_count, run_text}
use Rattle.chain_run.specs.Ticks.{ticks_from, end_tick}
use Rattle.chain_run.proofs.FollowingTicks.{EachFitsWidth, no_reset-ticks, fits-ticks, count-ticks, samples-ticks, count-values}
use Rattle.chain_run.proofs.RunSteps.{events-lines}
use Rattle.chain_run.proofs.SampleSteps.{sample-fits}

-- ---- samples of a file fit their width

fits-then : (w : ℕ) (row : Row) (first : Result ℤ LineFault) (others : Checked ℤ) → first ≡ sample_of w row → EachFitsWidth w others.items → EachFitsWidth w (item_then first others).items
fits-then w row (Ok x) others is rest = (sample-fits w row x is, rest)
fits-then w row (Err fault) others is rest = tt

fits-rows : (w : ℕ) (rows : List Row) (fault : Option LineFault) → EachFitsWidth w (checked (sample_of w) rows fault).items
fits-rows w [] fault = tt
fits-rows w (row ∷ rows) fault = fits-then w row (sample_of w row) (checked (sample_of w) rows fault) refl (fits-rows w rows fault)

pub fits-samples : (w : ℕ) (reading : Reading) → EachFitsWidth w (samples_of w reading).items
fits-samples w reading = fits-rows w reading.rows reading.fault

-- ---- values one after another

second : ℕ × ℤ → ℤ
second pair = pair.1

values-of-pairs : (events : List Event) → map (λ (e : Event). e.value) events ≡ map second (map pair_of events)
unfolding second
values-of-pairs [] = refl
values-of-pairs (e ∷ es) = ap (λ (vs : List ℤ). e.value ∷ vs) (values-of-pairs es)

values-of-outputs : (latency period : ℕ) (value : ℕ → ℤ) (n count : ℕ) → map second (outputs_from latency period value n count) ≡ map value (range_with_len n count)
unfolding second
values-of-outputs latency period value n zero = refl
values-of-outputs latency period value n (suc count) =
    let more : suc n ≡ n + 1 = omega arith in
    ap (λ (vs : List ℤ). value n ∷ vs) (values-of-outputs latency period value (suc n) count ∙ ap (λ (m : ℕ). map value (range_with_len m count)) more)

-- ---- the whole

-- a cycle with `rst` 1
abbrev pub reset_cycle : Cycle
reset_cycle = record { rst = true; ce = false; in_data = 0 }

module _ (elements : List Element) (t : ChainTiming) (d : Design) (timing : IsTiming t) (shows : ShowsChain elements t.width t.ticks t.latency t.period d)
    (old settled after : Values) (settles : IsSettling (circuit_of d) (with_inputs (inputs_of (ports_of d) reset_cycle) old) settled)
    (steps : (name : ℕ) → after name ≡ next (circuit_of d) settled name) where
  wide : 1 ≤ t.width
  wide = omega (arith, timing.least_width)

  module _ (xs : Checked ℤ) (fit : EachFitsWidth t.width xs.items) (text : List ℕ) (lines : ShowsLines d after (ticks_from t 0 0 xs.items xs.fault) text) where
    abbrev cycles : List Cycle
    cycles = ticks_from t 0 0 xs.items xs.fault

    abbrev events : List Event
    events = events_of (shapes_of d) (ports_of d) cycles lines.settled 1 0

    value_at : Sequence → ℕ → ℤ
    value_at s n = chain elements s (pos n)

    is_run : IsRunFrom d t.width old [] cycles reset_cycle (settled ∷ lines.settled)
    is_run = record {
      run = (settled, lines.settled, refl, settles, subst (λ (content : Values). RunsOver d content cycles lines.settled) (fun_ext steps) lines.run);
      is_reset = refl;
      last = no_reset-ticks t 0 0 xs.items xs.fault;
      fit = fits-ticks t 0 0 xs.items xs.fault;
    }

    shown_pairs : map pair_of events ≡ outputs_within t.latency t.period (λ n. val elements (samples_in t.width t.ticks cycles) (pos n)) (ticks_in cycles)
    shown_pairs = shows.shows old [] cycles reset_cycle (settled ∷ lines.settled) is_run

    counted : ceil_div (ticks_in cycles - t.latency) t.period ≡ value_count t (length xs.items) xs.fault
    counted =
        let none : 0 + length xs.items ≡ length xs.items = omega arith in
        let all : ticks_in cycles ≡ end_tick t (length xs.items) xs.fault =
        omega (arith, count-ticks t 0 0 xs.items xs.fault timing.least_ticks (omega arith), ap (λ (n : ℕ). end_tick t n xs.fault) none) in
        ap (λ (n : ℕ). ceil_div (n - t.latency) t.period) all ∙ count-values t (length xs.items) xs.fault timing

    pub chain-lines : text ≡ run_text elements t xs
    unfolding value_at
    chain-lines =
        lines.shown
        ∙ events-lines (shapes_of d) (ports_of d) cycles lines.settled 0 0 1 0
        ∙ ap printed_lines (
        values-of-pairs events
        ∙ ap (map second) shown_pairs
        ∙ values-of-outputs t.latency t.period (λ n. val elements (samples_in t.width t.ticks cycles) (pos n)) 0 (ceil_div (ticks_in cycles - t.latency) t.period)
        ∙ ap (λ (s : Sequence). map (value_at s) (range_with_len 0 (ceil_div (ticks_in cycles - t.latency) t.period))) (samples-ticks t xs.items xs.fault wide timing.least_ticks fit)
        ∙ ap (λ (n : ℕ). map (value_at (samples xs.items)) (range_with_len 0 n)) counted)

-- whatever a run gives from its start on is what `run` gives
pub gives-run : (elements : List Element) (t : ChainTiming) (design first middle final : Module) (place : Place) (old settled after : Values) → IsTiming t → ShowsChain elements t.width t.ticks t.latency t.period (design_view design)
    → first ≡ design → middle ≡ first → final ≡ middle → place ≡ start 1
    → IsSettling (circuit_of (design_view first)) (with_inputs (inputs_of (ports_of (design_view first)) reset_cycle) old) settled
    → ((name : ℕ) → after name ≡ next (circuit_of (design_view middle)) settled name)
    → (bytes text : List ℕ) (last : Option LineFault) → Gives (design_view final) after t 0 0 (samples_of t.width (rows_from place bytes)) text last → IsRunText elements t bytes text last
gives-run elements t design first middle final place old settled after timing shows is_first is_middle is_final is_place settles steps bytes text last g =
    let from_start = subst (λ (p : Place). Gives (design_view final) after t 0 0 (samples_of t.width (rows_from p bytes)) text last) is_place g in
    let here = subst (λ (m : Module). Gives (design_view m) after t 0 0 (file_samples t.width bytes) text last) (is_final ∙ is_middle ∙ is_first) from_start in
    record {
      is_text =
          chain-lines elements t (design_view design) timing shows old settled after
          (subst (λ (m : Module). IsSettling (circuit_of (design_view m)) (with_inputs (inputs_of (ports_of (design_view m)) reset_cycle) old) settled) is_first settles)
          (λ name. steps name ∙ ap (λ (m : Module). next (circuit_of (design_view m)) settled name) (is_middle ∙ is_first))
          (file_samples t.width bytes) (fits-samples t.width (file_rows 1 bytes)) text here.lines;
      is_last = here.refused;
    }
