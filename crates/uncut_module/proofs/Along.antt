-- The uncut run of a written module after a reset cycle.
use Rattle.std.proofs.Common.{◌≡◌, ℕ, zero, suc, ◌+◌, Bool, true, false, List, ◌∷◌, length, map, take, drop, Some, slice_get, ℤ, pos, refl, sym, ◌∙◌, ap, arith, subst}
use Rattle.std.proofs.lemmas.List.{map-append, length-map}
use Rattle.mr_values.specs.Width.{signed, wrap}
use Rattle.net_graph.specs.declared.cell.Cell.{Cell}
use Rattle.net_graph.specs.declared.cell.Node.{Node}
use Rattle.net_graph.specs.declared.cell.Item.TheVariants.{Register}
use Rattle.net_graph.specs.Cells.{cell_at}
use Rattle.net_graph.specs.Control.{IsControlClosed}
use Rattle.net_graph.specs.Cut.{cut_all, cut_control}
use Rattle.net_graph.specs.Name.{is_control}
use Rattle.net_graph.specs.Run.{IsRun as IsNetRun, Obeys, Values as Worth}
use Rattle.net_graph.specs.WellFormed.{IsNetlist, OperandsBelow}
use Rattle.net_graph.proofs.CellLemmas.{cell_at-there}
use Rattle.net_graph.proofs.ControlLemmas.{control_same}
use Rattle.net_graph.proofs.CutLemmas.{IsCut-all, IsCut-control}
use Rattle.net_graph.proofs.NetLemmas.{IsRun-keeps}
use Rattle.net_graph.proofs.RunLemmas.{some_run}
use Rattle.verilog_tree.specs.Meaning.{Values, bit_of}
use Rattle.verilog_tree.specs.Circuit.{Input, IsRun}
use Rattle.verilog_tree.specs.Shown.{Cycle, ports_of, inputs_of}
use Rattle.verilog_tree.specs.Uncut.{Numbers, whole_next}
use Rattle.verilog_tree.proofs.Resets.{run_on}
use Rattle.net_module.specs.Written.{IsWritable, is_register}
use Rattle.net_module.specs.Steps.{ticks_in, samples_of, width_in}
use Rattle.net_module.proofs.Along.{steps_as}
use Rattle.net_module.proofs.Cycles.{D, C, N, register_is, wide_of}
use Rattle.uncut_module.specs.Uncut.{RunsUncut, StepsUncut}
use Rattle.uncut_module.proofs.Cycle.{rst_number, ce_number, resets, rests, takes, register_kept, control_number, numbers_hold}
use Rattle.uncut_module.proofs.Indexed.{slice_get-drop, CycleAt, cycle_at, UncutAt, UncutAfter, uncut_after, no_reset_at, one_more, ticks_after_one, sample_at}

same_cycle : (c d : Cycle) → Some c ≡ Some d → c ≡ d
same_cycle c d e = cc

module _ (cells : List Cell) (netlist : IsNetlist cells) (closed : IsControlClosed cells) (writable : IsWritable cells) (content : Values) (before after : List Cycle) (reset : Cycle) (settled : List Values) (uncut : List Numbers) (worth : Worth)
    (runs : RunsUncut cells content before after reset settled uncut worth) where
  abbrev X : ℕ → ℤ
  X = samples_of (width_in cells) after

  abbrev number : ℕ → ℕ
  number = N cells netlist writable

  abbrev part : List Values
  part = drop (length before) settled

  abbrev ticks : ℕ → ℕ
  ticks j = ticks_in (take j after)

  -- the module's run from the reset cycle on
  part_runs : (start : Values) × IsRun (C cells netlist writable) start (map (inputs_of (ports_of (D cells netlist writable))) (reset ∷ after)) part
  part_runs =
      let names = inputs_of (ports_of (D cells netlist writable)) in
      let whole = subst (λ (is : List (List Input)). IsRun (C cells netlist writable) content is settled) (map-append names before (reset ∷ after)) runs.patterns.run in
      let on = run_on (C cells netlist writable) content (map names before) (map names (reset ∷ after)) settled whole in
      let rest : on.rest ≡ part = sym on.dropped ∙ ap (λ (n : ℕ). drop n settled) (length-map before names) in
      (on.content, subst (IsRun (C cells netlist writable) on.content (map names (reset ∷ after))) rest on.run)

  cycle_of : (j : ℕ) (now : Values) → slice_get part j ≡ Some now → CycleAt (C cells netlist writable) (inputs_of (ports_of (D cells netlist writable))) (reset ∷ after) j now
  cycle_of j now at = cycle_at (C cells netlist writable) (inputs_of (ports_of (D cells netlist writable))) (reset ∷ after) part_runs.0 part j now part_runs.1 at

  part_there : (j : ℕ) (now : Values) → slice_get part (suc j) ≡ Some now → slice_get settled (length before + 1 + j) ≡ Some now
  part_there j now at = ap (slice_get settled) (let e : length before + 1 + j ≡ length before + suc j = omega arith in e) ∙ sym (slice_get-drop (length before) (suc j) settled) ∙ at

  -- ---- control nodes

  -- the net's run that is cut
  cut_run : (values : Worth) × IsNetRun cut_all cells X values
  cut_run = some_run cut_all IsCut-all cells X netlist

  cut_worth : Worth
  cut_worth = cut_run.0

  kept : (t place : ℕ) (cell : Cell) → slice_get cells place ≡ Some cell → wrap cell.width (cut_worth t place) ≡ cut_worth t place
  unfolding cut_worth
  kept t place cell at = IsRun-keeps cut_all IsCut-all cells X cut_worth place cell cut_run.1 at (wide_of cells netlist writable place cell at) t

  same_control : (t place : ℕ) (cell : Cell) → slice_get cells place ≡ Some cell → is_control cell ≡ true → cut_worth t place ≡ worth t place
  unfolding cut_worth
  same_control t place cell at control =
      control_same cells netlist closed cut_all cut_control IsCut-all IsCut-control X X cut_worth worth cut_run.1 runs.net t place (record { cell = cell; there = at; control = control })

  -- ---- registers

  abbrev RegistersHold : ℕ → Numbers → Type 0
  RegistersHold j now = (place : ℕ) (cell : Cell) → slice_get cells place ≡ Some cell → is_register cell.item ≡ true → now (number place) ≡ worth (ticks j) place

  control_register : (j : ℕ) (start now : Numbers) → UncutAt (D cells netlist writable) part (suc j) start now → (place : ℕ) (cell : Cell) → slice_get cells place ≡ Some cell → is_register cell.item ≡ true → is_control cell ≡ true
      → now (number place) ≡ worth (ticks j) place
  unfolding cut_worth
  control_register j start now here place cell at reg control =
      let cycle = cycle_of (suc j) here.values here.there in
      control_number cells netlist writable cycle.cycle cycle.content here.values cycle.settling start now here.numbers place cell (cut_worth (ticks j) place) at control
      ((steps_as cells netlist writable).registers content before after reset settled runs.patterns cut_worth cut_run.1 j here.values (part_there j here.values here.there) place cell at reg)
      (kept (ticks j) place cell at)
      ∙ same_control (ticks j) place cell at control

  -- in a tick each node has its value, where the registers do
  nodes_from : (j : ℕ) (start now : Numbers) → UncutAt (D cells netlist writable) part (suc j) start now → (c : Cycle) → slice_get after j ≡ Some c → c.ce ≡ true → RegistersHold j now
      → (place : ℕ) (cell : Cell) → slice_get cells place ≡ Some cell → now (number place) ≡ worth (ticks j) place
  unfolding cut_worth
  nodes_from j start now here c there on registers =
      let cycle = cycle_of (suc j) here.values here.there in
      let same : cycle.cycle ≡ c = same_cycle cycle.cycle c (sym cycle.there ∙ there) in
      let sample = sample_at after j c there on in
      numbers_hold cells netlist writable cycle.cycle cycle.content here.values cycle.settling start now here.numbers X worth (ticks j) runs.net
      (ap (signed (width_in cells)) (sample ∙ ap (λ (d : Cycle). d.in_data) (sym same))) registers
      (λ place cell at control.
      control_number cells netlist writable cycle.cycle cycle.content here.values cycle.settling start now here.numbers place cell (cut_worth (ticks j) place) at control
      ((steps_as cells netlist writable).nodes content before after reset settled runs.patterns cut_worth cut_run.1 j c here.values there on (part_there j here.values here.there) place cell at)
      (kept (ticks j) place cell at)
      ∙ same_control (ticks j) place cell at control)

  -- ---- from cycle to cycle

  -- the registers hold their values where those outside control take them over
  taken_over : (j : ℕ) (start now : Numbers) → UncutAt (D cells netlist writable) part (suc j) start now
      → ((place : ℕ) (cell : Cell) → slice_get cells place ≡ Some cell → is_register cell.item ≡ true → is_control cell ≡ false → start (number place) ≡ worth (ticks j) place) → RegistersHold j now
  taken_over j start now here starts place cell at reg = by (is_control cell) refl
    where
      by : (b : Bool) → is_control cell ≡ b → now (number place) ≡ worth (ticks j) place
      by true control = control_register j start now here place cell at reg control
      by false data_node =
          let cycle = cycle_of (suc j) here.values here.there in
          register_kept cells netlist writable cycle.cycle cycle.content here.values cycle.settling start now here.numbers place cell at reg data_node ∙ starts place cell at reg data_node

  -- a register outside control begins with 0 and takes its next's value at each tick
  obeys : (place : ℕ) (cell : Cell) (next : Node) → slice_get cells place ≡ Some cell → is_control cell ≡ false → cell.item ≡ Some (Register next) → Obeys (λ v. v) X worth place (Some (Register next))
  obeys place cell next at data_node is =
      subst (λ (b : Bool). Obeys (cut_control b cell.width) X worth place (Some (Register next))) data_node (subst (Obeys (cut_control (is_control cell) cell.width) X worth place) is (runs.net.each place cell at))

  first_start : (now : Numbers) (a : UncutAfter (D cells netlist writable) part uncut 0 now) (place : ℕ) (cell : Cell) → slice_get cells place ≡ Some cell → is_register cell.item ≡ true → is_control cell ≡ false
      → whole_next (D cells netlist writable) a.before (number place) ≡ worth 0 place
  first_start now a place cell at reg data_node =
      let cycle = cycle_of 0 a.first.values a.first.there in
      let c = cycle.cycle in
      let r = register_is cell.item reg in
      let on : c.rst ≡ true = ap (λ (d : Cycle). d.rst) (sym (same_cycle reset c cycle.there)) ∙ runs.patterns.is_reset in
      resets cells netlist writable a.before c.rst c.ce
      (rst_number cells netlist writable c cycle.content a.first.values cycle.settling a.start a.before a.first.numbers) (ce_number cells netlist writable c cycle.content a.first.values cycle.settling a.start a.before a.first.numbers)
      on place cell at reg
      ∙ sym (obeys place cell r.0 at data_node r.1).0

  later_start : (i : ℕ) (now : Numbers) (a : UncutAfter (D cells netlist writable) part uncut (suc i) now) → RegistersHold i a.before → (place : ℕ) (cell : Cell) → slice_get cells place ≡ Some cell → is_register cell.item ≡ true → is_control cell ≡ false
      → whole_next (D cells netlist writable) a.before (number place) ≡ worth (ticks (suc i)) place
  later_start i now a held place cell at reg data_node = by cycle.cycle.ce refl
    where
      cycle : CycleAt (C cells netlist writable) (inputs_of (ports_of (D cells netlist writable))) (reset ∷ after) (suc i) a.first.values
      cycle = cycle_of (suc i) a.first.values a.first.there

      by : (b : Bool) → cycle.cycle.ce ≡ b → whole_next (D cells netlist writable) a.before (number place) ≡ worth (ticks (suc i)) place
      by b is =
          let c = cycle.cycle in
          let off = no_reset_at after i c runs.patterns.none cycle.there in
          let rst = rst_number cells netlist writable c cycle.content a.first.values cycle.settling a.start a.before a.first.numbers in
          let ce = ce_number cells netlist writable c cycle.content a.first.values cycle.settling a.start a.before a.first.numbers in
          let count : ticks (suc i) ≡ one_more b (ticks i) = ticks_after_one after i c cycle.there ∙ ap (λ (e : Bool). one_more e (ticks i)) is in
          which b is rst ce off ∙ ap (λ (t : ℕ). worth t place) (sym count)
        where
          which : (b : Bool) → cycle.cycle.ce ≡ b → a.before 2 ≡ pos (bit_of cycle.cycle.rst) → a.before 3 ≡ pos (bit_of cycle.cycle.ce) → cycle.cycle.rst ≡ false → whole_next (D cells netlist writable) a.before (number place) ≡ worth (one_more b (ticks i)) place
          which true on rst ce off =
              let r = register_is cell.item reg in
              let next = r.0 in
              let below = subst (OperandsBelow place (length cells) cell.width) r.1 (netlist.well_formed.each place cell at).operands in
              takes cells netlist writable a.before cycle.cycle.rst cycle.cycle.ce rst ce off on place cell at next r.1
              ∙ nodes_from i a.start a.before a.first cycle.cycle cycle.there on held next.place (cell_at cells next.place) (cell_at-there cells next.place below)
              ∙ sym ((obeys place cell next at data_node r.1).1 (ticks i))
          which false idle rst ce off = rests cells netlist writable a.before cycle.cycle.rst cycle.cycle.ce rst ce off idle place cell at reg ∙ held place cell at reg

  registers_hold : (j : ℕ) (now : Numbers) → slice_get uncut (suc j) ≡ Some now → RegistersHold j now
  registers_hold zero now at =
      let a = uncut_after (D cells netlist writable) runs.begins part uncut 0 now runs.numbers at in
      taken_over 0 (whole_next (D cells netlist writable) a.before) now a.then (first_start now a)
  registers_hold (suc i) now at =
      let a = uncut_after (D cells netlist writable) runs.begins part uncut (suc i) now runs.numbers at in
      taken_over (suc i) (whole_next (D cells netlist writable) a.before) now a.then (later_start i now a (registers_hold i a.before a.earlier))

  nodes_hold : (j : ℕ) (c : Cycle) (now : Numbers) → slice_get after j ≡ Some c → c.ce ≡ true → slice_get uncut (suc j) ≡ Some now
      → (place : ℕ) (cell : Cell) → slice_get cells place ≡ Some cell → now (number place) ≡ worth (ticks j) place
  nodes_hold j c now there on at =
      let a = uncut_after (D cells netlist writable) runs.begins part uncut j now runs.numbers at in
      nodes_from j (whole_next (D cells netlist writable) a.before) now a.then c there on (registers_hold j now at)

pub steps_uncut : (cells : List Cell) → IsNetlist cells → IsControlClosed cells → IsWritable cells → StepsUncut cells
steps_uncut cells netlist closed writable = record {
  registers = λ content before after reset settled uncut worth runs. registers_hold cells netlist closed writable content before after reset settled uncut worth runs;
  nodes = λ content before after reset settled uncut worth runs. nodes_hold cells netlist closed writable content before after reset settled uncut worth runs;
}
