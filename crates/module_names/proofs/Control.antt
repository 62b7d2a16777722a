-- Control names of a written module have at each tick one value in all runs.
use Rattle.std.proofs.Common.{◌≡◌, ℕ, zero, suc, true, false, List, [], Option, None, Some, slice_get, ℤ, refl, sym, ◌∙◌, ap, arith}
use Rattle.std.specs.Option.{unwrap_or}
use Rattle.mr_values.specs.Width.{pattern}
use Rattle.net_graph.specs.declared.cell.Cell.{Cell}
use Rattle.net_graph.specs.Control.{IsControlClosed}
use Rattle.net_graph.specs.Cut.{cut_all}
use Rattle.net_graph.specs.Name.{is_control}
use Rattle.net_graph.specs.Run.{IsRun, Values as Worth}
use Rattle.net_graph.specs.WellFormed.{IsNetlist}
use Rattle.net_graph.proofs.ControlLemmas.{control_same}
use Rattle.net_graph.proofs.CutLemmas.{IsCut-all}
use Rattle.net_graph.proofs.RunLemmas.{some_run}
use Rattle.verilog_tree.specs.Meaning.{Values}
use Rattle.verilog_tree.specs.Names as texts
use Rattle.verilog_tree.specs.Names.{text_of}
use Rattle.verilog_tree.specs.Tree.{Design}
use Rattle.net_module.specs.Steps.{samples_of, width_in}
use Rattle.net_module.specs.Written.{IsWritable, number_of, node_texts, written_module}
use Rattle.net_module.proofs.Along.{steps_as}
use Rattle.uncut_module.proofs.ControlNames.{control_of}
use Rattle.module_names.specs.Control.{IsAtTick, HasControl}
use Rattle.module_names.proofs.NodeNames.{named_from}

false_true : false ≡ true → ⊥
false_true h = cc

-- the name is that of a control node
record IsOfControlNode (cells : List Cell) (name : ℕ) : Type 0 where
  pub place : ℕ
  pub cell : Cell
  pub there : slice_get cells place ≡ Some cell
  pub number : name ≡ number_of cells place
  pub control : is_control cell ≡ true

control_node : (cells : List Cell) (name : ℕ) → texts.is_control (text_of (written_module cells) name) ≡ true → IsOfControlNode cells name
control_node cells zero is = absurd (false_true is)
control_node cells (suc zero) is = absurd (false_true is)
control_node cells (suc (suc zero)) is = absurd (false_true is)
control_node cells (suc (suc (suc zero))) is = absurd (false_true is)
control_node cells (suc (suc (suc (suc zero)))) is = absurd (false_true is)
control_node cells (suc (suc (suc (suc (suc zero))))) is = absurd (false_true is)
control_node cells (suc (suc (suc (suc (suc (suc zero)))))) is = absurd (false_true is)
control_node cells (suc (suc (suc (suc (suc (suc (suc i))))))) is = by (slice_get (node_texts cells 0) i) refl is
  where
    by : (o : Option (List ℕ)) → slice_get (node_texts cells 0) i ≡ o → texts.is_control (unwrap_or o []) ≡ true → IsOfControlNode cells (suc (suc (suc (suc (suc (suc (suc i)))))))
    by None e begins = absurd (false_true begins)
    by (Some text) e begins =
        let w = named_from cells 7 0 i text e in
        let number : suc (suc (suc (suc (suc (suc (suc i)))))) ≡ number_of cells w.place = omega (arith, w.number) in
        record {
          place = w.place;
          cell = w.cell;
          there = w.there;
          number = number;
          control = sym (control_of cells w.place w.cell w.there) ∙ ap (λ (n : ℕ). texts.is_control (text_of (written_module cells) n)) (sym number) ∙ is;
        }

module _ (cells : List Cell) (netlist : IsNetlist cells) (writable : IsWritable cells) (closed : IsControlClosed cells) where
  abbrev D : Design
  D = written_module cells

  -- a node's name has at a tick the bits of the node's value in a run of the net
  bits_at : (tick : ℕ) (now : Values) (a : IsAtTick D tick now) (worth : Worth) → IsRun cut_all cells (samples_of (width_in cells) a.after) worth → (place : ℕ) (cell : Cell) → slice_get cells place ≡ Some cell
      → now (number_of cells place) ≡ pattern cell.width (worth tick place)
  bits_at tick now a worth run place cell there =
      (steps_as cells netlist writable).nodes a.content a.before a.after a.reset a.settled
      (record { run = a.runs.run; is_reset = a.runs.is_reset; none = a.runs.none; fit = a.runs.fit }) worth run a.place a.cycle now a.there a.enabled a.values place cell there
      ∙ ap (λ (t : ℕ). pattern cell.width (worth t place)) a.ticks

  one_value : (tick : ℕ) (now other : Values) → IsAtTick D tick now → IsAtTick D tick other → (name : ℕ) → texts.is_control (text_of D name) ≡ true → now name ≡ other name
  one_value tick now other a b name is =
      let node = control_node cells name is in
      let inputs : ℕ → ℤ = samples_of (width_in cells) a.after in
      let others : ℕ → ℤ = samples_of (width_in cells) b.after in
      let run = some_run cut_all IsCut-all cells inputs netlist in
      let run_of = some_run cut_all IsCut-all cells others netlist in
      ap now node.number
      ∙ bits_at tick now a run.0 run.1 node.place node.cell node.there
      ∙ ap (pattern node.cell.width)
      (control_same cells netlist closed cut_all cut_all IsCut-all IsCut-all inputs others run.0 run_of.0 run.1 run_of.1 tick node.place (record { cell = node.cell; there = node.there; control = node.control }))
      ∙ sym (bits_at tick other b run_of.0 run_of.1 node.place node.cell node.there)
      ∙ ap other (sym node.number)

  pub has_control : HasControl D
  has_control = record { same = one_value }
