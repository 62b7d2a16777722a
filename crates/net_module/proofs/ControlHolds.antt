-- Control nodes have their values in every cycle, whatever the input is: they read control nodes alone.
use Rattle.std.proofs.Common.{◌≡◌, ℕ, zero, suc, ◌<◌, Bool, true, false, not, ◌&&◌, List, Option, Some, None, slice_get, ℤ, refl, sym, ◌∙◌, ap, arith, subst}
use Rattle.std.specs.Prelude.{IsSome}
use Rattle.mr_values.specs.Width.{pattern}
use Rattle.net_graph.specs.declared.cell.Cell.{Cell}
use Rattle.net_graph.specs.declared.cell.Item.{Item}
use Rattle.net_graph.specs.declared.cell.Item.TheVariants.{Input, Constant, Add, Sub, Shl, Shr, Mux, Equal, Bits, Register}
use Rattle.net_graph.specs.Control.{IsOfControl, ReadsControl, IsControlClosed}
use Rattle.net_graph.specs.Cut.{cut_all}
use Rattle.net_graph.specs.Name.{is_input, is_control_name}
use Rattle.net_graph.specs.Run.{Values as Worth, IsRun}
use Rattle.net_graph.specs.WellFormed.{IsNetlist}
use Rattle.verilog_tree.specs.Meaning.{Values}
use Rattle.verilog_tree.specs.Circuit.{IsSettled}
use Rattle.verilog_tree.proofs.Computes.{Holds}
use Rattle.net_module.specs.Written.{IsWritable, is_register}
use Rattle.net_module.proofs.Cycles.{S, C, N, wire_of, make, wire_bits}
use Rattle.net_module.proofs.Nodes.{ReadsAmong}

false_true : false ≡ true → ⊥
false_true h = cc

reads_control : (cells : List Cell) (item : Item) → ReadsControl cells (Some item) → ReadsAmong (IsOfControl cells) item
reads_control cells Input r = absurd r
reads_control cells (Constant v) r = r
reads_control cells (Add a b) r = r
reads_control cells (Sub a b) r = r
reads_control cells (Shl a by) r = r
reads_control cells (Shr a by) r = r
reads_control cells (Mux on a b) r = r
reads_control cells (Equal a b) r = r
reads_control cells (Bits a high low) r = r
reads_control cells (Register next) r = r

-- a control node is not the input
no_input : (a b : Bool) → (a && not b) ≡ true → b ≡ false
no_input true false e = refl
no_input true true e = absurd (false_true e)
no_input false b e = absurd (false_true e)

module _ (cells : List Cell) (netlist : IsNetlist cells) (writable : IsWritable cells) (closed : IsControlClosed cells) (x : ℕ → ℤ) (worth : Worth) (run : IsRun cut_all cells x worth) (t : ℕ) (now : Values)
    (settled : IsSettled (C cells netlist writable) now)
    (registers : (place : ℕ) (cell : Cell) → slice_get cells place ≡ Some cell → is_register cell.item ≡ true → now (N cells netlist writable place) ≡ pattern cell.width (worth t place)) where
  control_below : (bound place : ℕ) → place < bound → IsOfControl cells place → Holds (S cells netlist writable) now (N cells netlist writable place) (worth t place)
  control_below zero place lt is = absurd (omega arith)
  control_below (suc bound) place lt is =
      make cells netlist writable x worth run t now place is.cell is.there
      (by is.cell.item refl (netlist.bound.each place is.cell is.there) (λ k less. control_below bound k (omega arith)))
    where
      by : (item : Option Item) → is.cell.item ≡ item → IsSome item → ((k : ℕ) → k < place → IsOfControl cells k → Holds (S cells netlist writable) now (N cells netlist writable k) (worth t k))
          → now (N cells netlist writable place) ≡ pattern is.cell.width (worth t place)
      by None e some held = absurd (false_true some)
      by (Some item) e some held = which (is_register (Some item)) refl
        where
          no_data : is_input (Some item) ≡ false
          no_data = ap is_input (sym e) ∙ no_input (is_control_name is.cell.name is.cell.group) (is_input is.cell.item) is.control

          which : (b : Bool) → is_register (Some item) ≡ b → now (N cells netlist writable place) ≡ pattern is.cell.width (worth t place)
          which true register = registers place is.cell is.there (ap is_register e ∙ register)
          which false wire =
              wire_bits cells netlist writable x worth run t now settled (IsOfControl cells) place is.cell item is.there e (wire_of (is_input (Some item)) (is_register (Some item)) no_data wire)
              (reads_control cells item (subst (ReadsControl cells) e (closed.each place is.cell is.there is.control))) held

  pub control_holds : (place : ℕ) → IsOfControl cells place → Holds (S cells netlist writable) now (N cells netlist writable place) (worth t place)
  control_holds place is = control_below (suc place) place (omega arith) is
