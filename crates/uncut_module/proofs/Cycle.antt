-- One cycle of the uncut run of a written module.
use Rattle.std.proofs.Common.{◌≡◌, ℕ, zero, suc, ◌+◌, ◌<◌, Bool, true, false, List, length, Option, Some, None, slice_get, ℤ, pos, refl, sym, ◌∙◌, ap, arith, subst}
use Rattle.std.specs.Prelude.{◌==◌, if◌then◌else◌, IsSome}
use Rattle.std.specs.Option.{option_map, unwrap_or}
use Rattle.std.proofs.lemmas.Bool.{eq-eqb, ne_eqb}
use Rattle.std.proofs.lemmas.Option.{slice_get_within, slice_get-map}
use Rattle.mr_values.specs.Width.{pattern, signed, wrap}
use Rattle.net_graph.specs.declared.cell.Cell.{Cell}
use Rattle.net_graph.specs.declared.cell.Item.{Item}
use Rattle.net_graph.specs.declared.cell.Node.{Node}
use Rattle.net_graph.specs.declared.cell.Item.TheVariants.{Input, Constant, Add, Sub, Shl, Shr, Mux, Equal, Bits, Register}
use Rattle.net_graph.specs.Cells.{cell_at}
use Rattle.net_graph.specs.Cut.{cut_control}
use Rattle.net_graph.specs.Name.{is_control, is_input}
use Rattle.net_graph.specs.Run.{Values as Worth, Obeys, IsRun, result_of}
use Rattle.net_graph.specs.WellFormed.{IsNetlist, OperandsBelow}
use Rattle.net_graph.proofs.CellLemmas.{cell_at-there}
use Rattle.verilog_tree.specs.declared.tree.Kind.{Kind}
use Rattle.verilog_tree.specs.declared.tree.Kind.TheVariants.{Input as InputPort}
use Rattle.verilog_tree.specs.declared.tree.Signal.{Signal}
use Rattle.verilog_tree.specs.Tree.{Tree, Assignment}
use Rattle.verilog_tree.specs.Meaning.{Values, bit_of}
use Rattle.verilog_tree.specs.Names.{kind_of, text_of}
use Rattle.verilog_tree.specs.Names as texts
use Rattle.verilog_tree.specs.Circuit.{IsSettling}
use Rattle.verilog_tree.specs.Cycle.{driver_of, one_of}
use Rattle.verilog_tree.specs.Shown.{Cycle, signed_value}
use Rattle.verilog_tree.specs.Uncut.{Numbers, IsUncut, whole, whole_given, whole_next, is_not_zero}
use Rattle.mr_values.proofs.WidthLemmas.{pattern-zero, wrap_zero}
use Rattle.net_module.specs.Written.{IsWritable, is_wire, is_register, kind_for, node_signal, tree_for, block_for}
use Rattle.net_module.specs.Steps.{width_in}
use Rattle.net_module.proofs.Numbers.{number_input, number_apart}
use Rattle.net_module.proofs.Lists.{assignment_of, assign_at}
use Rattle.net_module.proofs.Outputs.{signed_value-true}
use Rattle.net_module.proofs.Cycles.{D, S, C, N, inputs, input_is, register_data, wire_of, wide_of, width_of, sign_of, signal_of, register_source, rst_is, ce_is, in_data_is}
use Rattle.uncut_module.proofs.Blocks.{block_gives, given_one}
use Rattle.uncut_module.proofs.ControlNames.{control_of}
use Rattle.uncut_module.proofs.Wires.{whole_item}

false_true : false ≡ true → ⊥
false_true h = cc

bit_holds : (b : Bool) → is_not_zero (pos (bit_of b)) ≡ b
bit_holds true = refl
bit_holds false = refl

-- a register, declared as one, is no input
reg_no_input : (cell : Cell) (n : ℕ) (kind : Option Kind) → kind ≡ option_map (λ (s : Signal). s.kind) (Some (node_signal cell n)) → is_register cell.item ≡ true → kind ≡ Some InputPort → ⊥
reg_no_input cell n kind is reg input = by (is_register cell.item) refl
  where
    by : (b : Bool) → is_register cell.item ≡ b → ⊥
    by true e = let never : Some (kind_for true) ≡ Some InputPort = ap (λ (b : Bool). Some (kind_for b)) (sym e) ∙ sym is ∙ input in cc
    by false e = false_true (sym e ∙ reg)

module _ (cells : List Cell) (netlist : IsNetlist cells) (writable : IsWritable cells) where
  -- ---- numbers of a register's blocks

  module _ (numbers : Numbers) (rst ce : Bool) (on_rst : numbers 2 ≡ pos (bit_of rst)) (on_ce : numbers 3 ≡ pos (bit_of ce)) where
    block_number : (n r w : ℕ) (e : Tree) → whole_given (S cells netlist writable) numbers (block_for n w e) r
        ≡ one_of rst (if r == n then Some (signed_value true w 0) else None) (one_of ce (if r == n then Some (whole (S cells netlist writable) e numbers) else None) None)
    block_number n r w e =
        ap (λ (b : Bool). one_of b (if r == n then Some (signed_value true w 0) else None) (one_of (is_not_zero (numbers 3)) (if r == n then Some (whole (S cells netlist writable) e numbers) else None) None))
        (ap is_not_zero on_rst ∙ bit_holds rst)
        ∙ ap (λ (b : Bool). one_of rst (if r == n then Some (signed_value true w 0) else None) (one_of b (if r == n then Some (whole (S cells netlist writable) e numbers) else None) None))
        (ap is_not_zero on_ce ∙ bit_holds ce)

    none_of : (a b : Bool) → let none : Option ℤ = None in one_of a none (one_of b none none) ≡ none
    none_of true b = refl
    none_of false true = refl
    none_of false false = refl

    other_block : (n r w : ℕ) (e : Tree) → (r ≡ n → ⊥) → whole_given (S cells netlist writable) numbers (block_for n w e) r ≡ None
    other_block n r w e apart = block_number n r w e ∙ rw (ne_eqb r n apart) (none_of rst ce)

    own_block : (n r w : ℕ) (e : Tree) → r ≡ n
        → whole_given (S cells netlist writable) numbers (block_for n w e) r ≡ one_of rst (Some (signed_value true w 0)) (one_of ce (Some (whole (S cells netlist writable) e numbers)) None)
    own_block n r w e same = block_number n r w e ∙ rw (eq-eqb r n same) refl

    -- a register after the edge
    after_edge : (place : ℕ) (cell : Cell) → slice_get cells place ≡ Some cell → is_register cell.item ≡ true
        → whole_next (D cells netlist writable) numbers (N cells netlist writable place)
        ≡ unwrap_or (one_of rst (Some (signed_value true cell.width 0)) (one_of ce (Some (whole (S cells netlist writable) (tree_for (N cells netlist writable) cell.width cell.item) numbers)) None)) (numbers (N cells netlist writable place))
    after_edge place cell at reg =
        let number = N cells netlist writable in
        let here : 0 + place ≡ place = omega arith in
        ap (λ (o : Option ℤ). unwrap_or o (numbers (number place)))
        (given_one (S cells netlist writable) numbers number (number place) cells 0 place cell at reg
        (λ j d found other apart.
        other_block (number (0 + j)) (number place) d.width (tree_for number d.width d.item)
        (λ e. apart (number_apart cells j place d cell found at (register_data d.item other) (register_data cell.item reg) (ap number (let over : j ≡ 0 + j = omega arith in over) ∙ sym e))))
        ∙ ap (block_gives (S cells netlist writable) numbers number (number place) cell) here
        ∙ own_block (number place) (number place) cell.width (tree_for number cell.width cell.item) refl)

    pub resets : rst ≡ true → (place : ℕ) (cell : Cell) → slice_get cells place ≡ Some cell → is_register cell.item ≡ true → whole_next (D cells netlist writable) numbers (N cells netlist writable place) ≡ pos 0
    resets on place cell at reg =
        after_edge place cell at reg
        ∙ ap (λ (b : Bool). unwrap_or (one_of b (Some (signed_value true cell.width 0)) (one_of ce (Some (whole (S cells netlist writable) (tree_for (N cells netlist writable) cell.width cell.item) numbers)) None)) (numbers (N cells netlist writable place))) on
        ∙ signed_value-true cell.width 0 ∙ ap (signed cell.width) (sym (pattern-zero cell.width)) ∙ wrap_zero cell.width (wide_of cells netlist writable place cell at)

    pub rests : rst ≡ false → ce ≡ false → (place : ℕ) (cell : Cell) → slice_get cells place ≡ Some cell → is_register cell.item ≡ true
        → whole_next (D cells netlist writable) numbers (N cells netlist writable place) ≡ numbers (N cells netlist writable place)
    rests off idle place cell at reg = after_edge place cell at reg ∙ rw (off, idle) refl

    pub takes : rst ≡ false → ce ≡ true → (place : ℕ) (cell : Cell) → slice_get cells place ≡ Some cell → (next : Node) → cell.item ≡ Some (Register next)
        → whole_next (D cells netlist writable) numbers (N cells netlist writable place) ≡ numbers (N cells netlist writable next.place)
    takes off on place cell at next is =
        after_edge place cell at (ap is_register is)
        ∙ rw (off, on) (ap (λ (i : Option Item). whole (S cells netlist writable) (tree_for (N cells netlist writable) cell.width i) numbers) is)

  -- ---- the numbers of a cycle

  module _ (c : Cycle) (content now : Values) (settling : IsSettling (C cells netlist writable) (inputs cells netlist writable c content) now) (start numbers : Numbers) (uncut : IsUncut (D cells netlist writable) start now numbers) where
    pub rst_number : numbers 2 ≡ pos (bit_of c.rst)
    rst_number = uncut.inputs 2 refl ∙ ap pos (rst_is cells netlist writable c content now settling)

    pub ce_number : numbers 3 ≡ pos (bit_of c.ce)
    ce_number = uncut.inputs 3 refl ∙ ap pos (ce_is cells netlist writable c content now settling)

    in_data_number : numbers 4 ≡ signed (width_in cells) c.in_data
    in_data_number =
        uncut.inputs 4 refl ∙ signed_value-true (width_in cells) (now 4)
        ∙ ap (signed (width_in cells)) (in_data_is cells netlist writable c content now settling)

    same_assignment : (a b : Assignment) → Some a ≡ Some b → a ≡ b
    same_assignment a b e = cc

    -- a register outside control has its number
    pub register_kept : (place : ℕ) (cell : Cell) → slice_get cells place ≡ Some cell → is_register cell.item ≡ true → is_control cell ≡ false → numbers (N cells netlist writable place) ≡ start (N cells netlist writable place)
    register_kept place cell at reg data_node =
        let number = N cells netlist writable place in
        uncut.registers number (control_of cells place cell at ∙ data_node)
        (reg_no_input cell number (kind_of (D cells netlist writable) number) (ap (λ (o : Option Signal). option_map (λ (s : Signal). s.kind) o) (signal_of cells netlist writable place cell at (register_data cell.item reg))) reg)
        (λ k a found is.
        register_source cells netlist writable place cell at reg k (driver_of (S cells netlist writable) a)
        (slice_get-map (driver_of (S cells netlist writable)) (D cells netlist writable).assigns k ∙ ap (option_map (driver_of (S cells netlist writable))) found) is)

    -- a control node has the number that its pattern stands for
    pub control_number : (place : ℕ) (cell : Cell) (z : ℤ) → slice_get cells place ≡ Some cell → is_control cell ≡ true → now (N cells netlist writable place) ≡ pattern cell.width z → wrap cell.width z ≡ z
        → numbers (N cells netlist writable place) ≡ z
    control_number place cell z at control bits kept =
        let number = N cells netlist writable place in
        uncut.control number (control_of cells place cell at ∙ control)
        ∙ ap (λ (b : Bool). signed_value b ((S cells netlist writable).width number) (now number)) (sign_of cells netlist writable place cell at)
        ∙ signed_value-true ((S cells netlist writable).width number) (now number)
        ∙ ap (λ (w : ℕ). signed w (now number)) (width_of cells netlist writable place cell at)
        ∙ ap (signed cell.width) bits ∙ kept

    module _ (x : ℕ → ℤ) (worth : Worth) (t : ℕ) (run : IsRun cut_control cells x worth) (sample : x t ≡ signed (width_in cells) c.in_data)
        (registers : (place : ℕ) (cell : Cell) → slice_get cells place ≡ Some cell → is_register cell.item ≡ true → numbers (N cells netlist writable place) ≡ worth t place)
        (controls : (place : ℕ) (cell : Cell) → slice_get cells place ≡ Some cell → is_control cell ≡ true → numbers (N cells netlist writable place) ≡ worth t place) where
      obeys : (place : ℕ) (cell : Cell) (item : Option Item) → slice_get cells place ≡ Some cell → is_control cell ≡ false → cell.item ≡ item → Obeys (λ v. v) x worth place item
      obeys place cell item at data_node is =
          subst (λ (b : Bool). Obeys (cut_control b cell.width) x worth place item) data_node (subst (Obeys (cut_control (is_control cell) cell.width) x worth place) is (run.each place cell at))

      input_number : (place : ℕ) (cell : Cell) → slice_get cells place ≡ Some cell → is_control cell ≡ false → is_input cell.item ≡ true → numbers (N cells netlist writable place) ≡ worth t place
      input_number place cell at data_node is =
          ap numbers (number_input cells 7 place cell at is) ∙ in_data_number ∙ sym sample ∙ sym (obeys place cell (Some Input) at data_node (input_is cell.item is) t)

      wire_obeys : (place : ℕ) (item : Item) → is_wire (Some item) ≡ true → Obeys (λ v. v) x worth place (Some item) → worth t place ≡ result_of item (x t) (worth t)
      wire_obeys place Input wire o = o t
      wire_obeys place (Constant v) wire o = o t
      wire_obeys place (Add a b) wire o = o t
      wire_obeys place (Sub a b) wire o = o t
      wire_obeys place (Shl a by) wire o = o t
      wire_obeys place (Shr a by) wire o = o t
      wire_obeys place (Mux on a b) wire o = o t
      wire_obeys place (Equal a b) wire o = o t
      wire_obeys place (Bits a high low) wire o = o t
      wire_obeys place (Register next) wire o = absurd (false_true wire)

      wire_number : (place : ℕ) (cell : Cell) (item : Item) → slice_get cells place ≡ Some cell → is_control cell ≡ false → cell.item ≡ Some item → is_wire (Some item) ≡ true
          → ((k : ℕ) → k < place → numbers (N cells netlist writable k) ≡ worth t k) → numbers (N cells netlist writable place) ≡ worth t place
      wire_number place cell item at data_node is wire held =
          let number = N cells netlist writable in
          let here : 0 + place ≡ place = omega arith in
          let a = assign_at number cells 0 place cell at (ap is_wire is ∙ wire) in
          ap (λ (p : ℕ). numbers (number p)) (sym here)
          ∙ uncut.wires (suc (suc a.0)) (assignment_of number cell (0 + place)) a.1 (ap (λ (p : ℕ). texts.is_control (text_of (D cells netlist writable) (number p))) here ∙ control_of cells place cell at ∙ data_node)
          ∙ ap (λ (i : Option Item). whole (S cells netlist writable) (tree_for number cell.width i) numbers) is
          ∙ whole_item (S cells netlist writable) numbers number (worth t) (x t) place (length cells) cell.width item (wide_of cells netlist writable place cell at) wire
          (subst (OperandsBelow place (length cells) cell.width) is (netlist.well_formed.each place cell at).operands) held
          ∙ sym (wire_obeys place item wire (obeys place cell (Some item) at data_node is))

      data_number : (place : ℕ) (cell : Cell) (item : Option Item) → slice_get cells place ≡ Some cell → is_control cell ≡ false → cell.item ≡ item → IsSome item
          → ((k : ℕ) → k < place → numbers (N cells netlist writable k) ≡ worth t k) → numbers (N cells netlist writable place) ≡ worth t place
      data_number place cell None at data_node is some held = absurd (false_true some)
      data_number place cell (Some item) at data_node is some held = which (is_input (Some item)) (is_register (Some item)) refl refl
        where
          which : (b d : Bool) → is_input (Some item) ≡ b → is_register (Some item) ≡ d → numbers (N cells netlist writable place) ≡ worth t place
          which true d e f = input_number place cell at data_node (ap is_input is ∙ e)
          which false true e f = registers place cell at (ap is_register is ∙ f)
          which false false e f = wire_number place cell item at data_node is (wire_of (is_input (Some item)) (is_register (Some item)) e f) held

      numbers_below : (bound place : ℕ) → place < bound → (cell : Cell) → slice_get cells place ≡ Some cell → numbers (N cells netlist writable place) ≡ worth t place
      numbers_below zero place lt cell at = absurd (omega arith)
      numbers_below (suc bound) place lt cell at =
          by (is_control cell) refl (λ k less. numbers_below bound k (omega arith) (cell_at cells k) (cell_at-there cells k (omega (arith, slice_get_within cells place cell at))))
        where
          by : (b : Bool) → is_control cell ≡ b → ((k : ℕ) → k < place → numbers (N cells netlist writable k) ≡ worth t k) → numbers (N cells netlist writable place) ≡ worth t place
          by true control held = controls place cell at control
          by false data_node held = data_number place cell cell.item at data_node refl (netlist.bound.each place cell at) held

      -- each node has its uncut value
      pub numbers_hold : (place : ℕ) (cell : Cell) → slice_get cells place ≡ Some cell → numbers (N cells netlist writable place) ≡ worth t place
      numbers_hold place cell at = numbers_below (suc place) place (omega arith) cell at
