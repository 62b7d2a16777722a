-- One cycle of the module that is written for a net.
use Rattle.std.proofs.Common.{◌≡◌, ℕ, zero, suc, ◌+◌, ◌^◌, ◌<◌, ◌≤◌, Bool, true, false, not, ◌&&◌, List, length, Option, Some, None, slice_get, ℤ, pos, refl, sym, ◌∙◌, ap, arith, subst}
use Rattle.std.specs.Prelude.{◌==◌, if◌then◌else◌, IsSome}
use Rattle.std.specs.Option.{option_map, option_map_or, unwrap_or}
use Rattle.std.proofs.lemmas.Bool.{eq-eqb, ne_eqb}
use Rattle.std.proofs.lemmas.Option.{slice_get_within, slice_get-map}
use Rattle.mr_values.specs.Width.{FitsWidth, pattern, signed, wrap}
use Rattle.mr_values.proofs.WidthLemmas.{pattern-wrap, pattern-zero, signed_is, FitsWidth-wrap}
use Rattle.net_graph.specs.declared.cell.Cell.{Cell}
use Rattle.net_graph.specs.declared.cell.Node.{Node}
use Rattle.net_graph.specs.declared.cell.Item.{Item}
use Rattle.net_graph.specs.declared.cell.Item.TheVariants.{Input, Constant, Add, Sub, Shl, Shr, Mux, Equal, Bits, Register}
use Rattle.net_graph.specs.Cells.{cell_at}
use Rattle.net_graph.specs.Cut.{cut_all}
use Rattle.net_graph.specs.Name.{is_input, is_control}
use Rattle.net_graph.specs.Run.{Values as Worth, Obeys, IsRun}
use Rattle.net_graph.specs.WellFormed.{IsNetlist, OperandsBelow, SelectsWithin}
use Rattle.net_graph.proofs.CellLemmas.{cell_at-there, cell_at-is, same_cell}
use Rattle.net_graph.proofs.CutLemmas.{IsCut-all}
use Rattle.net_graph.proofs.NetLemmas.{IsRun-keeps}
use Rattle.verilog_tree.specs.declared.tree.Signal.{Signal}
use Rattle.verilog_tree.specs.Tree as tree
use Rattle.verilog_tree.specs.Tree.{Tree, Action, Assignment, Design}
use Rattle.verilog_tree.specs.Meaning.{Shapes, Values, assigned, bit_of}
use Rattle.verilog_tree.specs.Names.{shapes_of, declaration_in}
use Rattle.verilog_tree.specs.Circuit.{Driver, Circuit, IsSource, IsSettled, IsSettling, with_inputs, next}
use Rattle.verilog_tree.specs.Cycle.{circuit_of, driver_of, given, one_of, condition_holds}
use Rattle.verilog_tree.specs.Shown.{Cycle, ports_of, inputs_of}
use Rattle.verilog_tree.proofs.OneSettling.{mapped}
use Rattle.verilog_tree.proofs.Computes.{Holds, assigned_from, name_computes, literal_computes}
use Rattle.net_module.specs.Written.{IsWritable, is_wire, is_register, input_place, number_of, node_signal, tree_for, zero_literal, block_for, written_module}
use Rattle.net_module.specs.Steps.{width_in}
use Rattle.net_module.proofs.Numbers.{number_least, number_apart, number_input, first_there}
use Rattle.net_module.proofs.Lists.{found_signal, passed_ports, assignment_of, assign_at, assign_from, block_gives, all_give, given_none, given_one}
use Rattle.net_module.proofs.Nodes.{ReadsAmong, node_bits}

false_true : false ≡ true → ⊥
false_true h = cc

-- ---- what an item is

pub input_is : (item : Option Item) → is_input item ≡ true → item ≡ Some Input
input_is None e = absurd (false_true e)
input_is (Some Input) e = refl
input_is (Some (Constant v)) e = absurd (false_true e)
input_is (Some (Add a b)) e = absurd (false_true e)
input_is (Some (Sub a b)) e = absurd (false_true e)
input_is (Some (Shl a by)) e = absurd (false_true e)
input_is (Some (Shr a by)) e = absurd (false_true e)
input_is (Some (Mux on a b)) e = absurd (false_true e)
input_is (Some (Equal a b)) e = absurd (false_true e)
input_is (Some (Bits a high low)) e = absurd (false_true e)
input_is (Some (Register next)) e = absurd (false_true e)

pub register_is : (item : Option Item) → is_register item ≡ true → (next : Node) × (item ≡ Some (Register next))
register_is None e = absurd (false_true e)
register_is (Some Input) e = absurd (false_true e)
register_is (Some (Constant v)) e = absurd (false_true e)
register_is (Some (Add a b)) e = absurd (false_true e)
register_is (Some (Sub a b)) e = absurd (false_true e)
register_is (Some (Shl a by)) e = absurd (false_true e)
register_is (Some (Shr a by)) e = absurd (false_true e)
register_is (Some (Mux on a b)) e = absurd (false_true e)
register_is (Some (Equal a b)) e = absurd (false_true e)
register_is (Some (Bits a high low)) e = absurd (false_true e)
register_is (Some (Register next)) e = (next, refl)

pub wire_parts : (b c : Bool) → (not b && not c) ≡ true → (b ≡ false) × (c ≡ false)
wire_parts true c e = absurd (false_true e)
wire_parts false true e = absurd (false_true e)
wire_parts false false e = (refl, refl)

pub register_data : (item : Option Item) → is_register item ≡ true → is_input item ≡ false
register_data item e = let r = register_is item e in ap is_input r.1

pub wire_of : (b c : Bool) → b ≡ false → c ≡ false → (not b && not c) ≡ true
wire_of b c e f = rw (e, f) refl

-- every item reads some nodes
reads_any : (item : Item) → ReadsAmong (λ k. Unit {0}) item
reads_any Input = tt
reads_any (Constant v) = tt
reads_any (Add a b) = (tt, tt)
reads_any (Sub a b) = (tt, tt)
reads_any (Shl a by) = tt
reads_any (Shr a by) = tt
reads_any (Mux on a b) = (tt, tt, tt)
reads_any (Equal a b) = (tt, tt)
reads_any (Bits a high low) = tt
reads_any (Register next) = tt

-- ---- conditions and blocks

holds_bit : (b : Bool) (n : ℕ) → n ≡ bit_of b → not (n == 0) ≡ b
holds_bit true n e = rw e refl
holds_bit false n e = rw e refl

module _ (cells : List Cell) (netlist : IsNetlist cells) (writable : IsWritable cells) where
  abbrev pub D : Design
  D = written_module cells

  abbrev pub S : Shapes
  S = shapes_of D

  abbrev pub C : Circuit
  C = circuit_of D

  abbrev pub N : ℕ → ℕ
  N = number_of cells

  abbrev pub inputs : Cycle → Values → Values
  inputs c content = with_inputs (inputs_of (ports_of D) c) content

  -- ---- shapes

  pub wide_of : (place : ℕ) (cell : Cell) → slice_get cells place ≡ Some cell → 1 ≤ cell.width
  wide_of place cell at = (netlist.well_formed.each place cell at).wide.0

  pub signal_of : (place : ℕ) (cell : Cell) → slice_get cells place ≡ Some cell → is_input cell.item ≡ false → declaration_in D.signals (N place) ≡ Some (node_signal cell (N place))
  signal_of place cell at data_node =
      passed_ports _ _ (N place) _ (number_least cells 7 place cell at data_node) ∙ found_signal cells 7 place cell at data_node

  -- the input has the width of the port
  pub input_width : (place : ℕ) (cell : Cell) → slice_get cells place ≡ Some cell → is_input cell.item ≡ true → width_in cells ≡ cell.width
  input_width place cell at is =
      let first = first_there (λ (c : Cell). is_input c.item) cells place cell at is in
      let same = writable.one_input (input_place cells) place first.cell cell first.there at first.is_it is in
      let one = same_cell first.cell cell (slice_get cells place) (ap (slice_get cells) (sym same) ∙ first.there) at in
      ap (λ (c : Cell). c.width) (cell_at-is cells (input_place cells) first.cell first.there ∙ one)

  pub width_of : (place : ℕ) (cell : Cell) → slice_get cells place ≡ Some cell → S.width (N place) ≡ cell.width
  width_of place cell at = by (is_input cell.item) refl
    where
      by : (b : Bool) → is_input cell.item ≡ b → S.width (N place) ≡ cell.width
      by true is = ap S.width (number_input cells 7 place cell at is) ∙ input_width place cell at is
      by false is = ap (λ (o : Option Signal). option_map_or (λ (s : Signal). s.width) o 1) (signal_of place cell at is)

  pub sign_of : (place : ℕ) (cell : Cell) → slice_get cells place ≡ Some cell → S.signed (N place) ≡ true
  sign_of place cell at = by (is_input cell.item) refl
    where
      by : (b : Bool) → is_input cell.item ≡ b → S.signed (N place) ≡ true
      by true is = ap S.signed (number_input cells 7 place cell at is)
      by false is = ap (λ (o : Option Signal). option_map_or (λ (s : Signal). s.signed) o false) (signal_of place cell at is)

  -- ---- what no assignment drives

  same_assignment : (a b : Assignment) → Some a ≡ Some b → a ≡ b
  same_assignment a b e = cc

  undriven : (n : ℕ) → (n ≡ 5 → ⊥) → (n ≡ 6 → ⊥) → ((place : ℕ) (cell : Cell) → slice_get cells place ≡ Some cell → is_wire cell.item ≡ true → N place ≡ n → ⊥) → IsSource C n
  undriven n five six wires k dr at is = let a = mapped (driver_of S) D.assigns k dr at in by k a.0 a.1 (ap (λ (e : Driver). e.target) a.2 ∙ is)
    where
      by : (k : ℕ) (a : Assignment) → slice_get D.assigns k ≡ Some a → a.target ≡ n → ⊥
      by zero a found e = five (sym (ap (λ (b : Assignment). b.target) (same_assignment _ a found) ∙ e))
      by (suc zero) a found e = six (sym (ap (λ (b : Assignment). b.target) (same_assignment _ a found) ∙ e))
      by (suc (suc k)) a found e =
          let w = assign_from N cells 0 k a found in
          let place : 0 + w.place ≡ w.place = omega arith in
          wires w.place w.cell w.there w.wire (ap N (sym place) ∙ sym (ap (λ (b : Assignment). b.target) w.is_it) ∙ e)

  wire_number : (place : ℕ) (cell : Cell) → slice_get cells place ≡ Some cell → is_wire cell.item ≡ true → 7 ≤ N place
  wire_number place cell at wire = number_least cells 7 place cell at (wire_parts (is_input cell.item) (is_register cell.item) wire).0

  port_source : (n : ℕ) → n < 5 → IsSource C n
  port_source n lt = undriven n (λ e. omega arith) (λ e. omega arith) (λ place cell at wire e. omega (arith, wire_number place cell at wire))

  pub register_source : (place : ℕ) (cell : Cell) → slice_get cells place ≡ Some cell → is_register cell.item ≡ true → IsSource C (N place)
  register_source place cell at reg =
      let least = number_least cells 7 place cell at (register_data cell.item reg) in
      undriven (N place) (λ e. omega arith) (λ e. omega arith)
      (λ other d found wire e.
      let parts = wire_parts (is_input d.item) (is_register d.item) wire in
      let same = number_apart cells other place d cell found at parts.0 (register_data cell.item reg) e in
      let one = same_cell d cell (slice_get cells place) (ap (slice_get cells) (sym same) ∙ found) at in
      false_true (sym parts.1 ∙ ap (λ (c : Cell). is_register c.item) one ∙ reg))

  -- ---- the value of a node

  module _ (x : ℕ → ℤ) (worth : Worth) (run : IsRun cut_all cells x worth) (t : ℕ) (now : Values) where
    fits_of : (place : ℕ) (cell : Cell) → slice_get cells place ≡ Some cell → FitsWidth cell.width (worth t place)
    fits_of place cell at =
        let wide = wide_of place cell at in
        subst (λ (z : ℤ). FitsWidth cell.width z) (IsRun-keeps cut_all IsCut-all cells x worth place cell run at wide t) (FitsWidth-wrap cell.width (worth t place) wide)

    pub make : (place : ℕ) (cell : Cell) → slice_get cells place ≡ Some cell → now (N place) ≡ pattern cell.width (worth t place) → Holds S now (N place) (worth t place)
    make place cell at bits =
        let w = width_of place cell at in
        let wide = wide_of place cell at in
        record {
          wide = omega (arith, w, wide);
          sign = sign_of place cell at;
          fits = subst (λ (n : ℕ). FitsWidth n (worth t place)) (sym w) (fits_of place cell at);
          bits = bits ∙ ap (λ (n : ℕ). pattern n (worth t place)) (sym w);
        }

    -- a settled wire has the bits of its node's value, where the nodes have that it reads
    pub wire_bits : IsSettled C now → (among : ℕ → Type 0) (place : ℕ) (cell : Cell) (item : Item) → slice_get cells place ≡ Some cell → cell.item ≡ Some item → is_wire (Some item) ≡ true → ReadsAmong among item
        → ((k : ℕ) → k < place → among k → Holds S now (N k) (worth t k)) → now (N place) ≡ pattern cell.width (worth t place)
    wire_bits settled among place cell item at is wire reads_these held =
        let reads = netlist.well_formed.each place cell at in
        let inside = slice_get_within cells place cell at in
        let here : 0 + place ≡ place = omega arith in
        let a = assign_at N cells 0 place cell at (ap is_wire is ∙ wire) in
        let value = settled (suc (suc a.0)) (driver_of S (assignment_of N cell (0 + place))) (slice_get-map (driver_of S) D.assigns (suc (suc a.0)) ∙ ap (option_map (driver_of S)) a.1) in
        ap (λ (p : ℕ). now (N p)) (sym here) ∙ value ∙ ap (λ (p : ℕ). assigned S now (N p) (tree_for N cell.width cell.item)) here
        ∙ ap (λ (i : Option Item). assigned S now (N place) (tree_for N cell.width i)) is
        ∙ node_bits cells S now N x worth t (N place) place (length cells) cell.width (wide_of place cell at) (width_of place cell at) among held
        (λ k lt. let there = cell_at-there cells k (omega (arith, inside, lt)) in (cell_at cells k, there, width_of k (cell_at cells k) there)) item wire reads_these
        (subst (Obeys (cut_all (is_control cell) cell.width) x worth place) is (run.each place cell at))
        (subst (OperandsBelow place (length cells) cell.width) is reads.operands)
        (subst (SelectsWithin cells) is reads.selects)

  -- ---- settled values

  module _ (c : Cycle) (content now : Values) (settling : IsSettling C (inputs c content) now) where
    pub settled_assign : (k : ℕ) (a : Assignment) → slice_get D.assigns k ≡ Some a → now a.target ≡ assigned S now a.target a.value
    settled_assign k a at = settling.settled k (driver_of S a) (slice_get-map (driver_of S) D.assigns k ∙ ap (option_map (driver_of S)) at)

    pub rst_is : now 2 ≡ bit_of c.rst
    rst_is = settling.sources 2 (port_source 2 (omega arith))

    pub ce_is : now 3 ≡ bit_of c.ce
    ce_is = settling.sources 3 (port_source 3 (omega arith))

    pub in_data_is : now 4 ≡ c.in_data
    in_data_is = settling.sources 4 (port_source 4 (omega arith))

    rst_holds : condition_holds S now (tree.Name 2) ≡ c.rst
    rst_holds = holds_bit c.rst (now 2) rst_is

    ce_holds : condition_holds S now (tree.Name 3) ≡ c.ce
    ce_holds = holds_bit c.ce (now 3) ce_is

    pub register_is_kept : (place : ℕ) (cell : Cell) → slice_get cells place ≡ Some cell → is_register cell.item ≡ true → now (N place) ≡ content (N place)
    register_is_kept place cell at reg =
        let least = number_least cells 7 place cell at (register_data cell.item reg) in
        settling.sources (N place) (register_source place cell at reg)
        ∙ rw (ne_eqb (N place) 4 (λ e. omega arith), ne_eqb (N place) 3 (λ e. omega arith), ne_eqb (N place) 2 (λ e. omega arith)) refl

    -- ---- blocks

    block_value : (n r w : ℕ) (e : Tree) → given S now (block_for n w e) r
        ≡ one_of c.rst (if r == n then Some (assigned S now n (zero_literal w)) else None) (one_of c.ce (if r == n then Some (assigned S now n e) else None) None)
    block_value n r w e =
        ap (λ (b : Bool). one_of b (if r == n then Some (assigned S now n (zero_literal w)) else None) (one_of (condition_holds S now (tree.Name 3)) (if r == n then Some (assigned S now n e) else None) None)) rst_holds
        ∙ ap (λ (b : Bool). one_of c.rst (if r == n then Some (assigned S now n (zero_literal w)) else None) (one_of b (if r == n then Some (assigned S now n e) else None) None)) ce_holds

    none_of : (a b : Bool) → let none : Option ℕ = None in one_of a none (one_of b none none) ≡ none
    none_of true b = refl
    none_of false true = refl
    none_of false false = refl

    other_block : (n r w : ℕ) (e : Tree) → (r ≡ n → ⊥) → given S now (block_for n w e) r ≡ None
    other_block n r w e apart = block_value n r w e ∙ rw (ne_eqb r n apart) (none_of c.rst c.ce)

    own_block : (n r w : ℕ) (e : Tree) → r ≡ n → given S now (block_for n w e) r ≡ one_of c.rst (Some (assigned S now n (zero_literal w))) (one_of c.ce (Some (assigned S now n e)) None)
    own_block n r w e same = block_value n r w e ∙ rw (eq-eqb r n same) refl

    -- what a register's own block gives it, all give it
    all_own : (place : ℕ) (cell : Cell) → slice_get cells place ≡ Some cell → is_register cell.item ≡ true
        → all_give S now N (N place) cells 0 ≡ one_of c.rst (Some (assigned S now (N place) (zero_literal cell.width))) (one_of c.ce (Some (assigned S now (N place) (tree_for N cell.width cell.item))) None)
    all_own place cell at reg =
        let here : 0 + place ≡ place = omega arith in
        given_one S now N (N place) cells 0 place cell at reg
        (λ j d found other apart.
        other_block (N (0 + j)) (N place) d.width (tree_for N d.width d.item)
        (λ e. apart (number_apart cells j place d cell found at (register_data d.item other) (register_data cell.item reg) (ap N (let over : j ≡ 0 + j = omega arith in over) ∙ sym e))))
        ∙ ap (block_gives S now N (N place) cell) here
        ∙ own_block (N place) (N place) cell.width (tree_for N cell.width cell.item) refl

    -- ---- the registers after the edge

    pub rests : c.rst ≡ false → c.ce ≡ false → (name : ℕ) → next C now name ≡ now name
    rests off idle name =
        ap (λ (o : Option ℕ). unwrap_or o (now name))
        (given_none S now N name cells 0 (λ place cell at reg. block_value (N (0 + place)) name cell.width (tree_for N cell.width cell.item) ∙ rw (off, idle) refl))

    pub resets : c.rst ≡ true → (x : ℕ → ℤ) (worth : Worth) → IsRun cut_all cells x worth → (place : ℕ) (cell : Cell) → slice_get cells place ≡ Some cell → is_register cell.item ≡ true
        → next C now (N place) ≡ pattern cell.width (worth 0 place)
    resets on x worth run place cell at reg =
        let r = register_is cell.item reg in
        let wide = wide_of place cell at in
        let begins = subst (Obeys (cut_all (is_control cell) cell.width) x worth place) r.1 (run.each place cell at) in
        ap (λ (o : Option ℕ). unwrap_or o (now (N place)))
        (all_own place cell at reg ∙ ap (λ (b : Bool). one_of b (Some (assigned S now (N place) (zero_literal cell.width))) (one_of c.ce (Some (assigned S now (N place) (tree_for N cell.width cell.item))) None)) on)
        ∙ assigned_from S now (N place) (zero_literal cell.width) (wrap cell.width (pos 0)) (literal_computes S now cell.width 0 (pos 0) wide (sym (pattern-zero cell.width))).computes
        ∙ ap (λ (w : ℕ). pattern w (wrap cell.width (pos 0))) (width_of place cell at)
        ∙ pattern-wrap cell.width (pos 0) wide ∙ ap (pattern cell.width) (sym begins.0)

    -- ---- a tick

    module _ (x : ℕ → ℤ) (worth : Worth) (t : ℕ) (run : IsRun cut_all cells x worth) (small : c.in_data < 2 ^ width_in cells) (sample : x t ≡ signed (width_in cells) c.in_data)
        (registers : (place : ℕ) (cell : Cell) → slice_get cells place ≡ Some cell → is_register cell.item ≡ true → content (N place) ≡ pattern cell.width (worth t place)) where
      input_bits : (place : ℕ) (cell : Cell) → slice_get cells place ≡ Some cell → is_input cell.item ≡ true → now (N place) ≡ pattern cell.width (worth t place)
      input_bits place cell at is =
          let w = input_width place cell at is in
          let wide = wide_of place cell at in
          let obeys = subst (Obeys (cut_all (is_control cell) cell.width) x worth place) (input_is cell.item is) (run.each place cell at) in
          let port_wide : 1 ≤ width_in cells = omega (arith, w, wide) in
          ap now (number_input cells 7 place cell at is) ∙ in_data_is
          ∙ (signed_is (width_in cells) c.in_data port_wide small).1
          ∙ ap (λ (n : ℕ). pattern n (signed (width_in cells) c.in_data)) w
          ∙ ap (pattern cell.width) (sym sample)
          ∙ sym (pattern-wrap cell.width (x t) wide) ∙ ap (pattern cell.width) (sym (obeys t))

      nodes_below : (bound place : ℕ) → place < bound → (cell : Cell) → slice_get cells place ≡ Some cell → Holds S now (N place) (worth t place)
      nodes_below zero place lt cell at = absurd (omega arith)
      nodes_below (suc bound) place lt cell at =
          make x worth run t now place cell at
          (by cell.item refl (netlist.bound.each place cell at)
          (λ k less. let there = cell_at-there cells k (omega (arith, slice_get_within cells place cell at)) in nodes_below bound k (omega arith) (cell_at cells k) there))
        where
          by : (item : Option Item) → cell.item ≡ item → IsSome item → ((k : ℕ) → k < place → Holds S now (N k) (worth t k)) → now (N place) ≡ pattern cell.width (worth t place)
          by None is some held = absurd (false_true some)
          by (Some item) is some held = which (is_input (Some item)) (is_register (Some item)) refl refl
            where
              which : (b d : Bool) → is_input (Some item) ≡ b → is_register (Some item) ≡ d → now (N place) ≡ pattern cell.width (worth t place)
              which true d e f = input_bits place cell at (ap is_input is ∙ e)
              which false true e f = register_is_kept place cell at (ap is_register is ∙ f) ∙ registers place cell at (ap is_register is ∙ f)
              which false false e f = wire_bits x worth run t now settling.settled (λ k. Unit {0}) place cell item at is (wire_of (is_input (Some item)) (is_register (Some item)) e f) (reads_any item) (λ k less any. held k less)

      -- each node's signal has the bits of its value
      pub nodes_hold : (place : ℕ) (cell : Cell) → slice_get cells place ≡ Some cell → Holds S now (N place) (worth t place)
      nodes_hold place cell at = nodes_below (suc place) place (omega arith) cell at

      -- and each register takes that of the next tick
      pub ticks : c.rst ≡ false → c.ce ≡ true → (place : ℕ) (cell : Cell) → slice_get cells place ≡ Some cell → is_register cell.item ≡ true → next C now (N place) ≡ pattern cell.width (worth (suc t) place)
      ticks off on place cell at reg =
          let r = register_is cell.item reg in
          let wide = wide_of place cell at in
          let obeys = subst (Obeys (cut_all (is_control cell) cell.width) x worth place) r.1 (run.each place cell at) in
          let below = subst (OperandsBelow place (length cells) cell.width) r.1 (netlist.well_formed.each place cell at).operands in
          let there = cell_at-there cells r.0.place below in
          ap (λ (o : Option ℕ). unwrap_or o (now (N place)))
          (all_own place cell at reg
          ∙ ap (λ (b : Bool). one_of b (Some (assigned S now (N place) (zero_literal cell.width))) (one_of c.ce (Some (assigned S now (N place) (tree_for N cell.width cell.item))) None)) off
          ∙ ap (λ (b : Bool). one_of b (Some (assigned S now (N place) (tree_for N cell.width cell.item))) None) on)
          ∙ ap (λ (i : Option Item). assigned S now (N place) (tree_for N cell.width i)) r.1
          ∙ assigned_from S now (N place) (tree.Name (N r.0.place)) (worth t r.0.place) (name_computes S now (N r.0.place) (worth t r.0.place) (nodes_hold r.0.place (cell_at cells r.0.place) there)).computes
          ∙ ap (λ (w : ℕ). pattern w (worth t r.0.place)) (width_of place cell at)
          ∙ sym (pattern-wrap cell.width (worth t r.0.place) wide) ∙ ap (pattern cell.width) (sym (obeys.1 t))
