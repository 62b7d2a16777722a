-- At most one adder of a group stands between two registers of the written module, where that is so in the net.
use Rattle.std.proofs.Common.{◌≡◌, ℕ, zero, suc, ◌+◌, ◌-◌, ◌<◌, ◌≤◌, ◌^◌, ◌⊎◌, max, inl, inr, Bool, true, false, not, ◌&&◌, cond, List, [], ◌∷◌, ◌++◌, length, length-append, get_or, Option, None, Some, slice_get, refl, sym, ◌∙◌, ap, subst, arith}
use Rattle.std.specs.Prelude.{nat_eq, IsSome}
use Rattle.std.proofs.lemmas.Bool.{cases_lt, eqb-true, ne_eqb}
use Rattle.std.proofs.lemmas.List.{get_or_push}
use Rattle.std.proofs.Math.ListN.{get_or-append}
use Rattle.std.proofs.Math.Nat.{max-le}
use Rattle.net_graph.specs.declared.cell.Cell.{Cell}
use Rattle.net_graph.specs.declared.cell.Node.{Node}
use Rattle.net_graph.specs.declared.cell.Item.{Item}
use Rattle.net_graph.specs.declared.cell.Item.TheVariants.{Input, Constant, Add, Sub, Shl, Shr, Mux, Equal, Bits, Register}
use Rattle.net_graph.specs.declared.name.Name.{Name}
use Rattle.net_graph.specs.declared.name.NameKind.{NameKind}
use Rattle.net_graph.specs.declared.name.NameKind.TheVariants.{Control, Window, Copy, PreAdder, Register as Other, Table, Output, Valid}
use Rattle.net_graph.specs.Cells.{cell_at}
use Rattle.net_graph.specs.Count.{is_table}
use Rattle.net_graph.specs.Depth.{is_source, passed_on, IsPlain, of_other, begins, passes, chooses, compares, TakesPlain, IsShallow}
use Rattle.net_graph.specs.Name.{is_input, IsWireName}
use Rattle.net_graph.specs.WellFormed.{IsNetlist, IsNamed, OperandsBelow}
use Rattle.net_graph.proofs.CellLemmas.{cell_at-there}
use Rattle.verilog_tree.specs.declared.tree.Kind.TheVariants.{Reg}
use Rattle.verilog_tree.specs.Tree.{Name as NameTree, Action, Assignment, Design}
use Rattle.verilog_tree.specs.Names as texts
use Rattle.verilog_tree.specs.Names.{text_of, kind_of}
use Rattle.verilog_tree.specs.Counted.{in_group, depth_of, HasDepth, IsGivenWithin}
use Rattle.net_module.specs.Written.{is_register, is_wire, number_after, number_in, number_of, own_number, tree_for, input_place, output_place, valid_place, written_module}
use Rattle.net_module.proofs.Cycles.{wire_parts, register_data, wire_of}
use Rattle.net_module.proofs.Lists.{assignment_of, assign_from}
use Rattle.net_module.proofs.NodeTexts.{node_text_of}
use Rattle.net_module.proofs.Numbers.{one_cell, number_least, number_below, number_input}
use Rattle.net_module.proofs.Loops.{number_past}
use Rattle.std.proofs.lemmas.Option.{slice_get_within}
use Rattle.net_text.specs.Small.{AreSmall}
use Rattle.net_text.proofs.Names.{kind_shape, shape_for, text_shape, small_shape}
use Rattle.net_graph.specs.Tables.{HasOwnTables}
use Rattle.module_costs.proofs.Prefixes.{is_shape_in, shape_in_group}
use Rattle.module_costs.proofs.Sums.{nameless_in}
use Rattle.module_costs.proofs.Written.{past_ports, register_from, block_from}

true_false : true ≡ false → ⊥
true_false h = cc

zero_plus : (n : ℕ) → 0 + n ≡ n
zero_plus n = omega arith

-- ---- a row of depths, node by node

module _ (counts : ℕ → Bool) (N : ℕ → ℕ) where
  -- the depth of a name
  abbrev at : List ℕ → ℕ → ℕ
  at row n = get_or row (n - 7) 0

  -- that of a node, where those of the earlier ones are known: a register has none
  abbrev entry : List ℕ → Cell → ℕ
  entry row cell = cond (is_wire cell.item) (depth_of counts (at row) (tree_for N cell.width cell.item)) 0

  -- the input has no place in the row
  abbrev grown : Bool → List ℕ → ℕ → List ℕ
  grown true row depth = row
  grown false row depth = row ++ depth ∷ []

  row_after : List Cell → List ℕ → List ℕ
  row_after [] row = row
  row_after (cell ∷ cells) row = row_after cells (grown (is_input cell.item) row (entry row cell))

  -- the depths of earlier nodes stay
  prefix_kept : (cells : List Cell) (row : List ℕ) (k : ℕ) → k < length row → get_or (row_after cells row) k 0 ≡ get_or row k 0
  unfolding row_after
  prefix_kept [] row k h = refl
  prefix_kept (c ∷ cells) row k h = by (is_input c.item) (λ more less. prefix_kept cells more k less)
    where
      by : (b : Bool) → ((more : List ℕ) → k < length more → get_or (row_after cells more) k 0 ≡ get_or more k 0) → get_or (row_after cells (grown b row (entry row c))) k 0 ≡ get_or row k 0
      by true kept = kept row h
      by false kept = kept (row ++ entry row c ∷ []) (omega (arith, length-append row (entry row c ∷ []))) ∙ get_or-append row (entry row c ∷ []) 0 k h

  -- where the operand is of the group, it is an earlier node
  record IsLower (bound : ℕ) (a : Node) : Type 0 where
    node : counts (N a.place) ≡ true → 7 ≤ N a.place
    below : counts (N a.place) ≡ true → N a.place < bound

  abbrev AreLower : ℕ → Option Item → Type 0
  AreLower bound None = Unit {0}
  AreLower bound (Some Input) = Unit {0}
  AreLower bound (Some (Constant v)) = Unit {0}
  AreLower bound (Some (Add a b)) = IsLower bound a × IsLower bound b
  AreLower bound (Some (Sub a b)) = IsLower bound a × IsLower bound b
  AreLower bound (Some (Shl a k)) = IsLower bound a
  AreLower bound (Some (Shr a k)) = IsLower bound a
  AreLower bound (Some (Mux on a b)) = IsLower bound on × IsLower bound a × IsLower bound b
  AreLower bound (Some (Equal a b)) = IsLower bound a × IsLower bound b
  AreLower bound (Some (Bits a high low)) = IsLower bound a
  AreLower bound (Some (Register next)) = Unit {0}

  -- the depth of an operand, 0 where it is of another group
  abbrev read : (ℕ → ℕ) → Node → ℕ
  read depth a = cond (counts (N a.place)) (depth (N a.place)) 0

  module _ (d e : ℕ → ℕ) (bound : ℕ) (same : (n : ℕ) → 7 ≤ n → n < bound → d n ≡ e n) where
    read_same : (a : Node) → IsLower bound a → read d a ≡ read e a
    read_same a l = by (counts (N a.place)) refl
      where
        by : (b : Bool) → counts (N a.place) ≡ b → cond b (d (N a.place)) 0 ≡ cond b (e (N a.place)) 0
        by true is = same (N a.place) (l.node is) (l.below is)
        by false is = refl

    -- an item's depth turns on the earlier nodes alone
    depth_same : (width : ℕ) (item : Option Item) → is_wire item ≡ true → AreLower bound item → depth_of counts d (tree_for N width item) ≡ depth_of counts e (tree_for N width item)
    depth_same width None w l = refl
    depth_same width (Some Input) w l = absurd (cc)
    depth_same width (Some (Constant v)) w l = refl
    depth_same width (Some (Add a b)) w l = λ i. 1 + max (read_same a l.0 i) (read_same b l.1 i)
    depth_same width (Some (Sub a b)) w l = λ i. 1 + max (read_same a l.0 i) (read_same b l.1 i)
    depth_same width (Some (Shl a k)) w l = λ i. 0 + read_same a l i
    depth_same width (Some (Shr a k)) w l = λ i. 0 + read_same a l i
    depth_same width (Some (Mux on a b)) w l = λ i. 0 + max (read_same on l.0 i) (max (read_same a l.1 i) (read_same b l.2 i))
    depth_same width (Some (Equal a b)) w l = λ i. 0 + max (read_same a l.0 i) (read_same b l.1 i)
    depth_same width (Some (Bits a high low)) w l = λ i. 0 + read_same a l i
    depth_same width (Some (Register next)) w l = absurd (cc)

  entry_same : (row more : List ℕ) (bound : ℕ) (cell : Cell) → AreLower bound cell.item → ((n : ℕ) → 7 ≤ n → n < bound → at row n ≡ at more n) → entry row cell ≡ entry more cell
  entry_same row more bound cell l same = by (is_wire cell.item) refl
    where
      by : (b : Bool) → is_wire cell.item ≡ b → cond b (depth_of counts (at row) (tree_for N cell.width cell.item)) 0 ≡ cond b (depth_of counts (at more) (tree_for N cell.width cell.item)) 0
      by true w = depth_same (at row) (at more) bound same cell.width cell.item w l
      by false w = refl

  -- each node has the depth that its item gives from the whole row
  row_node : (cells : List Cell) (row : List ℕ) (first j : ℕ) (cell : Cell) → slice_get cells j ≡ Some cell → is_input cell.item ≡ false → first ≡ 7 + length row → AreLower (number_in cells first j) cell.item
      → at (row_after cells row) (number_in cells first j) ≡ entry (row_after cells row) cell
  unfolding row_after
  row_node [] row first j cell there node count l = absurd (cc)
  row_node (c ∷ cells) row first zero cell there node count l =
      let one = one_cell c cell there in
      let plain : is_input c.item ≡ false = ap (λ (x : Cell). is_input x.item) one ∙ node in
      let number : own_number (is_input c.item) first ≡ first = ap (λ (b : Bool). own_number b first) plain in
      let place : own_number (is_input c.item) first - 7 ≡ length row = omega (arith, number, count) in
      let d = entry row c in
      let grows : row_after (c ∷ cells) row ≡ row_after cells (row ++ d ∷ []) = ap (λ (b : Bool). row_after cells (grown b row d)) plain in
      let here : get_or (row_after (c ∷ cells) row) (length row) 0 ≡ d =
      ap (λ (r : List ℕ). get_or r (length row) 0) grows ∙ prefix_kept cells (row ++ d ∷ []) (length row) (omega (arith, length-append row (d ∷ []))) ∙ get_or_push row d 0 (length row) refl in
      ap (λ (k : ℕ). get_or (row_after (c ∷ cells) row) k 0) place ∙ here ∙ ap (entry row) one
      ∙ entry_same row (row_after (c ∷ cells) row) (own_number (is_input c.item) first) cell l (λ n low high. sym (prefix_kept (c ∷ cells) row (n - 7) (omega (arith, low, high, number, count))))
  row_node (c ∷ cells) row first (suc j) cell there node count l = row_node cells (grown (is_input c.item) row (entry row c)) (number_after (is_input c.item) first) j cell there node (longer (is_input c.item)) l
    where
      longer : (b : Bool) → number_after b first ≡ 7 + length (grown b row (entry row c))
      longer true = count
      longer false = omega (arith, count, length-append row (entry row c ∷ []))

-- ---- the written module

module _ (cells : List Cell) (netlist : IsNetlist cells) (small : AreSmall cells) (own : HasOwnTables cells) (group : ℕ) (some : 1 ≤ group) (low : group < 2 ^ 64) (shallow : IsShallow cells group) where
  abbrev D : Design
  D = written_module cells

  abbrev N : ℕ → ℕ
  N = number_of cells

  abbrev counts : ℕ → Bool
  counts = in_group D group

  -- the names of the module and of its ports are of no group
  head_uncounted : (n : ℕ) → n < 7 → counts n ≡ false
  head_uncounted zero less = refl
  head_uncounted (suc zero) less = refl
  head_uncounted (suc (suc zero)) less = refl
  head_uncounted (suc (suc (suc zero))) less = refl
  head_uncounted (suc (suc (suc (suc zero)))) less = refl
  head_uncounted (suc (suc (suc (suc (suc zero))))) less = refl
  head_uncounted (suc (suc (suc (suc (suc (suc zero)))))) less = refl
  head_uncounted (suc (suc (suc (suc (suc (suc (suc n))))))) less = absurd (omega arith)

  counted_high : (n : ℕ) → counts n ≡ true → 7 ≤ n
  counted_high n is = by (cases_lt n 7)
    where
      by : (n < 7) ⊎ (7 ≤ n) → 7 ≤ n
      by (inl less) = absurd (true_false (sym is ∙ head_uncounted n less))
      by (inr high) = high

  -- a name of the group is not that of the input
  counted_node : (place : ℕ) (cell : Cell) → slice_get cells place ≡ Some cell → counts (N place) ≡ true → is_input cell.item ≡ false
  counted_node place cell there is = by (is_input cell.item) refl
    where
      by : (b : Bool) → is_input cell.item ≡ b → b ≡ false
      by true input = absurd (let high = counted_high (N place) is in let port = number_input cells 7 place cell there input in omega (arith, high, port))
      by false input = refl

  -- ---- groups

  wire_named : (name : Name) (item : Option Item) → IsSome item → is_wire item ≡ true → IsNamed (Some name) item → IsWireName name
  wire_named name None s w n = absurd (true_false (sym s))
  wire_named name (Some Input) s w n = absurd (cc)
  wire_named name (Some (Register next)) s w n = absurd (cc)
  wire_named name (Some (Constant v)) s w n = n
  wire_named name (Some (Add a b)) s w n = n
  wire_named name (Some (Sub a b)) s w n = n
  wire_named name (Some (Shl a k)) s w n = n
  wire_named name (Some (Shr a k)) s w n = n
  wire_named name (Some (Mux on a b)) s w n = n
  wire_named name (Some (Equal a b)) s w n = n
  wire_named name (Some (Bits a high low)) s w n = n

  kind_group : (kind : NameKind) (of number node place : ℕ) → IsWireName (record { group = of; kind = kind; number = number }) → (kind ≡ Table → of ≡ node) → is_shape_in group (kind_shape kind of number node place) ≡ nat_eq node group
  kind_group Valid of number node place n tables = nameless_in group node place some
  kind_group Table of number node place n tables = ap (λ (g : ℕ). nat_eq g group) (tables refl)
  kind_group Control of number node place n tables = absurd n
  kind_group Window of number node place n tables = absurd n
  kind_group Copy of number node place n tables = absurd n
  kind_group PreAdder of number node place n tables = absurd n
  kind_group Other of number node place n tables = absurd n
  kind_group Output of number node place n tables = absurd n

  shape_group : (place : ℕ) (cell : Cell) → slice_get cells place ≡ Some cell → is_wire cell.item ≡ true → is_shape_in group (shape_for cell.name cell.group place) ≡ nat_eq cell.group group
  shape_group place cell there w = by cell.name refl
    where
      by : (name : Option Name) → cell.name ≡ name → is_shape_in group (shape_for name cell.group place) ≡ nat_eq cell.group group
      by None e = nameless_in group cell.group place some
      by (Some name) e =
          let named = subst (λ (o : Option Name). IsNamed o cell.item) e (netlist.well_formed.each place cell there).named in
          kind_group name.kind name.group name.number cell.group place (wire_named name cell.item (netlist.bound.each place cell there) w named)
          (λ table. own.own place cell name there e (ap is_table table))

  -- a wire's name is of the group of its node
  wire_group : (place : ℕ) (cell : Cell) → slice_get cells place ≡ Some cell → is_wire cell.item ≡ true → counts (N place) ≡ nat_eq cell.group group
  wire_group place cell there w =
      ap (texts.is_in_group group) (node_text_of cells place cell there (wire_parts (is_input cell.item) (is_register cell.item) w).0 ∙ text_shape cell.name cell.group place)
      ∙ shape_in_group (shape_for cell.name cell.group place) group (small_shape cells netlist small place cell there) low
      ∙ shape_group place cell there w

  -- ---- depths of nodes

  lower : (place : ℕ) (cell : Cell) (a : Node) → slice_get cells place ≡ Some cell → is_input cell.item ≡ false → a.place < place → place < length cells → IsLower counts N (N place) a
  lower place cell a there node before inside = record {
    node = λ is. counted_high (N a.place) is;
    below = λ is.
        let earlier = cell_at-there cells a.place (omega (arith, before, inside)) in
        number_below cells 7 a.place place (cell_at cells a.place) cell before earlier there (counted_node a.place (cell_at cells a.place) earlier is) node;
  }

  all_lower : (place : ℕ) (cell : Cell) → slice_get cells place ≡ Some cell → is_input cell.item ≡ false → (item : Option Item) → OperandsBelow place (length cells) cell.width item → place < length cells → AreLower counts N (N place) item
  all_lower place cell there node None o inside = tt
  all_lower place cell there node (Some Input) o inside = tt
  all_lower place cell there node (Some (Constant v)) o inside = tt
  all_lower place cell there node (Some (Add a b)) o inside = (lower place cell a there node o.0 inside, lower place cell b there node o.1 inside)
  all_lower place cell there node (Some (Sub a b)) o inside = (lower place cell a there node o.0 inside, lower place cell b there node o.1 inside)
  all_lower place cell there node (Some (Shl a k)) o inside = lower place cell a there node o.0 inside
  all_lower place cell there node (Some (Shr a k)) o inside = lower place cell a there node o.0 inside
  all_lower place cell there node (Some (Mux on a b)) o inside = (lower place cell on there node o.0 inside, lower place cell a there node o.1 inside, lower place cell b there node o.2 inside)
  all_lower place cell there node (Some (Equal a b)) o inside = (lower place cell a there node o.0 inside, lower place cell b there node o.1 inside)
  all_lower place cell there node (Some (Bits a high low)) o inside = lower place cell a there node o.0 inside
  all_lower place cell there node (Some (Register next)) o inside = tt

  row : List ℕ
  row = row_after counts N cells []

  value : ℕ → ℕ
  unfolding row
  value n = at counts N row n

  value_is : (place : ℕ) (cell : Cell) → slice_get cells place ≡ Some cell → is_input cell.item ≡ false → value (N place) ≡ cond (is_wire cell.item) (depth_of counts value (tree_for N cell.width cell.item)) 0
  unfolding row value
  value_is place cell there node =
      row_node counts N cells [] 7 place cell there node refl (all_lower place cell there node cell.item (netlist.well_formed.each place cell there).operands (slice_get_within cells place cell there))

  -- a register has depth 0
  value_register : (place : ℕ) (cell : Cell) → slice_get cells place ≡ Some cell → is_register cell.item ≡ true → value (N place) ≡ 0
  value_register place cell there r =
      value_is place cell there (register_data cell.item r) ∙ ap (λ (b : Bool). cond b (depth_of counts value (tree_for N cell.width cell.item)) 0) (no_wire (is_input cell.item) (is_register cell.item) r)
    where
      no_wire : (a b : Bool) → b ≡ true → (not a && not b) ≡ false
      no_wire true true e = refl
      no_wire false true e = refl
      no_wire a false e = absurd (true_false (sym e))

  -- a wire has that of its item
  value_wire : (place : ℕ) (cell : Cell) (item : Option Item) → slice_get cells place ≡ Some cell → cell.item ≡ item → is_wire item ≡ true → value (N place) ≡ depth_of counts value (tree_for N cell.width item)
  value_wire place cell item there is w =
      value_is place cell there (wire_parts (is_input cell.item) (is_register cell.item) (ap is_wire is ∙ w)).0
      ∙ ap (λ (i : Option Item). cond (is_wire i) (depth_of counts value (tree_for N cell.width i)) 0) is ∙ ap (λ (b : Bool). cond b (depth_of counts value (tree_for N cell.width item)) 0) w

  -- the depth of an operand
  abbrev seen : Node → ℕ
  seen a = cond (counts (N a.place)) (value (N a.place)) 0

  seen_most : (a : Node) (most : ℕ) → (counts (N a.place) ≡ true → value (N a.place) ≤ most) → seen a ≤ most
  seen_most a most h = by (counts (N a.place)) refl
    where
      by : (b : Bool) → counts (N a.place) ≡ b → cond b (value (N a.place)) 0 ≤ most
      by true is = h is
      by false is = omega arith

  -- ---- plain nodes have depth 0

  source_zero : (place : ℕ) (cell : Cell) → slice_get cells place ≡ Some cell → (item : Option Item) → cell.item ≡ item → is_source item ≡ true → counts (N place) ≡ true → value (N place) ≤ 0
  source_zero place cell there None is s c = absurd (let bound = subst (λ (i : Option Item). IsSome i) is (netlist.bound.each place cell there) in true_false (sym bound))
  source_zero place cell there (Some Input) is s c = absurd (let node = counted_node place cell there c in true_false (sym (ap is_input is) ∙ node))
  source_zero place cell there (Some (Constant v)) is s c = let e = value_wire place cell (Some (Constant v)) there is refl in omega (arith, e)
  source_zero place cell there (Some (Register next)) is s c = let e = value_register place cell there (ap is_register is) in omega (arith, e)
  source_zero place cell there (Some (Add a b)) is s c = absurd (cc)
  source_zero place cell there (Some (Sub a b)) is s c = absurd (cc)
  source_zero place cell there (Some (Shl a k)) is s c = absurd (cc)
  source_zero place cell there (Some (Shr a k)) is s c = absurd (cc)
  source_zero place cell there (Some (Mux on a b)) is s c = absurd (cc)
  source_zero place cell there (Some (Equal a b)) is s c = absurd (cc)
  source_zero place cell there (Some (Bits a high low)) is s c = absurd (cc)

  -- a node of another group is a register, or its name is of no such group
  other_zero : (place : ℕ) (cell : Cell) → slice_get cells place ≡ Some cell → (cell.group ≡ group → ⊥) → counts (N place) ≡ true → value (N place) ≤ 0
  other_zero place cell there other c = by (is_register cell.item) refl
    where
      by : (b : Bool) → is_register cell.item ≡ b → value (N place) ≤ 0
      by true r = let e = value_register place cell there r in omega (arith, e)
      by false r =
          let w = wire_of (is_input cell.item) (is_register cell.item) (counted_node place cell there c) r in
          absurd (other (eqb-true cell.group group (sym (wire_group place cell there w) ∙ c)))

  passed_zero : (place : ℕ) (cell : Cell) (a : Node) → slice_get cells place ≡ Some cell → (item : Option Item) → cell.item ≡ item → passed_on item ≡ Some a → seen a ≤ 0 → value (N place) ≤ 0
  passed_zero place cell a there (Some (Shl b k)) is p z = let e = value_wire place cell (Some (Shl b k)) there is refl in let same : b ≡ a = cc in let s = ap seen same in omega (arith, e, s, z)
  passed_zero place cell a there (Some (Shr b k)) is p z = let e = value_wire place cell (Some (Shr b k)) there is refl in let same : b ≡ a = cc in let s = ap seen same in omega (arith, e, s, z)
  passed_zero place cell a there (Some (Bits b high low)) is p z = let e = value_wire place cell (Some (Bits b high low)) there is refl in let same : b ≡ a = cc in let s = ap seen same in omega (arith, e, s, z)
  passed_zero place cell a there None is p z = absurd (cc)
  passed_zero place cell a there (Some Input) is p z = absurd (cc)
  passed_zero place cell a there (Some (Constant v)) is p z = absurd (cc)
  passed_zero place cell a there (Some (Add b d)) is p z = absurd (cc)
  passed_zero place cell a there (Some (Sub b d)) is p z = absurd (cc)
  passed_zero place cell a there (Some (Mux on b d)) is p z = absurd (cc)
  passed_zero place cell a there (Some (Equal b d)) is p z = absurd (cc)
  passed_zero place cell a there (Some (Register next)) is p z = absurd (cc)

  plain_zero : (place : ℕ) → IsPlain cells group place → counts (N place) ≡ true → value (N place) ≤ 0
  plain_zero p0 (of_other place cell there other) c = other_zero place cell there other c
  plain_zero p0 (begins place cell there is) c = source_zero place cell there cell.item refl is c
  plain_zero p0 (passes place cell a there is p) c = passed_zero place cell a there cell.item refl is (seen_most a 0 (plain_zero a.place p))
  plain_zero p0 (chooses place cell on a b there is p q r) c =
      let e = value_wire place cell (Some (Mux on a b)) there is refl in
      let m : max (seen on) (max (seen a) (seen b)) ≤ 0 = max-le (seen_most on 0 (plain_zero on.place p)) (max-le (seen_most a 0 (plain_zero a.place q)) (seen_most b 0 (plain_zero b.place r))) in
      omega (arith, e, m)
  plain_zero p0 (compares place cell a b there is p q) c =
      let e = value_wire place cell (Some (Equal a b)) there is refl in
      let m : max (seen a) (seen b) ≤ 0 = max-le (seen_most a 0 (plain_zero a.place p)) (seen_most b 0 (plain_zero b.place q)) in
      omega (arith, e, m)

  -- ---- every node of the group has at most depth 1

  adder_most : (x a b : ℕ) → x ≡ 1 + max a b → a ≤ 0 → b ≤ 0 → x ≤ 1
  adder_most x a b e p q = let m : max a b ≤ 0 = max-le p q in omega (arith, e, m)

  most_one : (place : ℕ) (cell : Cell) → slice_get cells place ≡ Some cell → (item : Option Item) → cell.item ≡ item → OperandsBelow place (length cells) cell.width item
      → ((a : Node) → a.place < place → seen a ≤ 1) → counts (N place) ≡ true → value (N place) ≤ 1
  most_one place cell there None is o before c = absurd (let bound = subst (λ (i : Option Item). IsSome i) is (netlist.bound.each place cell there) in true_false (sym bound))
  most_one place cell there (Some Input) is o before c = absurd (let node = counted_node place cell there c in true_false (sym (ap is_input is) ∙ node))
  most_one place cell there (Some (Constant v)) is o before c = let e = value_wire place cell (Some (Constant v)) there is refl in omega (arith, e)
  most_one place cell there (Some (Register next)) is o before c = let e = value_register place cell there (ap is_register is) in omega (arith, e)
  most_one place cell there (Some (Shl a k)) is o before c = let e = value_wire place cell (Some (Shl a k)) there is refl in let m = before a o.0 in omega (arith, e, m)
  most_one place cell there (Some (Shr a k)) is o before c = let e = value_wire place cell (Some (Shr a k)) there is refl in let m = before a o.0 in omega (arith, e, m)
  most_one place cell there (Some (Bits a high low)) is o before c = let e = value_wire place cell (Some (Bits a high low)) there is refl in let m = before a o.0 in omega (arith, e, m)
  most_one place cell there (Some (Mux on a b)) is o before c =
      let e = value_wire place cell (Some (Mux on a b)) there is refl in
      let m : max (seen on) (max (seen a) (seen b)) ≤ 1 = max-le (before on o.0) (max-le (before a o.1) (before b o.2)) in
      omega (arith, e, m)
  most_one place cell there (Some (Equal a b)) is o before c =
      let e = value_wire place cell (Some (Equal a b)) there is refl in
      let m : max (seen a) (seen b) ≤ 1 = max-le (before a o.0) (before b o.1) in
      omega (arith, e, m)
  most_one place cell there (Some (Add a b)) is o before c =
      let e = value_wire place cell (Some (Add a b)) there is refl in
      let of_group = eqb-true cell.group group (sym (wire_group place cell there (ap is_wire is)) ∙ c) in
      let p = subst (λ (i : Option Item). TakesPlain cells group i) is (shallow.each place cell there of_group) in
      adder_most (value (N place)) (seen a) (seen b) e (seen_most a 0 (plain_zero a.place p.0)) (seen_most b 0 (plain_zero b.place p.1))
  most_one place cell there (Some (Sub a b)) is o before c =
      let e = value_wire place cell (Some (Sub a b)) there is refl in
      let of_group = eqb-true cell.group group (sym (wire_group place cell there (ap is_wire is)) ∙ c) in
      let p = subst (λ (i : Option Item). TakesPlain cells group i) is (shallow.each place cell there of_group) in
      adder_most (value (N place)) (seen a) (seen b) e (seen_most a 0 (plain_zero a.place p.0)) (seen_most b 0 (plain_zero b.place p.1))

  below_one : (bound place : ℕ) → place < bound → place < length cells → counts (N place) ≡ true → value (N place) ≤ 1
  below_one zero place less inside c = absurd (omega arith)
  below_one (suc bound) place less inside c =
      let cell = cell_at cells place in
      let there = cell_at-there cells place inside in
      most_one place cell there cell.item refl (netlist.well_formed.each place cell there).operands
      (λ a before. seen_most a 1 (λ is. below_one bound a.place (omega (arith, before, less)) (omega (arith, before, inside)) is)) c

  -- a node of the net, if its name is of the group
  one_deep : (place : ℕ) → counts (N place) ≡ true → value (N place) ≤ 1
  one_deep place c = by (cases_lt place (length cells))
    where
      by : (place < length cells) ⊎ (length cells ≤ place) → value (N place) ≤ 1
      by (inl inside) = below_one (suc place) place (omega arith) inside c
      by (inr past) = absurd (let high = counted_high (N place) c in let none = number_past cells 7 place past in omega (arith, high, none))

  -- ---- depths of names

  abbrev shown : ℕ → ℕ
  shown place = cond (counts (N place)) (value (N place)) 0

  depth : ℕ → ℕ
  depth n = cond (nat_eq n 5) (shown (valid_place cells)) (cond (nat_eq n 6) (shown (output_place cells)) (value n))

  depth_high : (n : ℕ) → 7 ≤ n → depth n ≡ value n
  unfolding depth
  depth_high n high = rw (ne_eqb n 5 (λ e. omega (arith, e, high)), ne_eqb n 6 (λ e. omega (arith, e, high))) refl

  depth_node : (place : ℕ) → cond (counts (N place)) (depth (N place)) 0 ≡ shown place
  depth_node place = by (counts (N place)) refl
    where
      by : (b : Bool) → counts (N place) ≡ b → cond b (depth (N place)) 0 ≡ cond b (value (N place)) 0
      by true is = depth_high (N place) (counted_high (N place) is)
      by false is = refl

  -- the depth of a wire
  depth_wire : (place : ℕ) (cell : Cell) → slice_get cells place ≡ Some cell → is_wire cell.item ≡ true → depth (N place) ≡ depth_of counts depth (tree_for N cell.width cell.item)
  depth_wire place cell there w =
      let node = (wire_parts (is_input cell.item) (is_register cell.item) w).0 in
      let lowers = all_lower place cell there node cell.item (netlist.well_formed.each place cell there).operands (slice_get_within cells place cell there) in
      depth_high (N place) (number_least cells 7 place cell there node) ∙ value_wire place cell cell.item there refl w
      ∙ depth_same counts N value depth (N place) (λ n high less. sym (depth_high n high)) cell.width cell.item w lowers

  depth_register : (n : ℕ) → kind_of D n ≡ Some Reg → depth n ≡ 0
  depth_register n is =
      let r = register_from cells 7 n (past_ports (cell_at cells (input_place cells)).width (cell_at cells (output_place cells)).width n _ is) in
      let node = register_data r.cell.item r.register in
      ap depth r.number ∙ depth_high (N r.place) (number_least cells 7 r.place r.cell r.there node) ∙ value_register r.place r.cell r.there r.register

  one_assignment : (a b : Assignment) → Some a ≡ Some b → a ≡ b
  one_assignment a b e = cc

  wires : (k : ℕ) (a : Assignment) → slice_get D.assigns k ≡ Some a → depth a.target ≡ depth_of counts depth a.value
  unfolding depth
  wires zero a there =
      let is = one_assignment (record { target = 5; value = NameTree (N (valid_place cells)) }) a there in
      subst (λ (x : Assignment). depth x.target ≡ depth_of counts depth x.value) is (sym (depth_node (valid_place cells)) ∙ sym (zero_plus (cond (counts (N (valid_place cells))) (depth (N (valid_place cells))) 0)))
  wires (suc zero) a there =
      let is = one_assignment (record { target = 6; value = NameTree (N (output_place cells)) }) a there in
      subst (λ (x : Assignment). depth x.target ≡ depth_of counts depth x.value) is (sym (depth_node (output_place cells)) ∙ sym (zero_plus (cond (counts (N (output_place cells))) (depth (N (output_place cells))) 0)))
  wires (suc (suc k)) a there =
      let w = assign_from N cells 0 k a there in
      let is : assignment_of N w.cell w.place ≡ a = sym (w.is_it ∙ ap (assignment_of N w.cell) (zero_plus w.place)) in
      subst (λ (x : Assignment). depth x.target ≡ depth_of counts depth x.value) is (depth_wire w.place w.cell w.there w.wire)

  assigned : (k : ℕ) (a : Assignment) → slice_get D.assigns k ≡ Some a → counts a.target ≡ true → depth a.target ≤ 1
  assigned zero a there c =
      let is = ap (λ (x : Assignment). x.target) (one_assignment (record { target = 5; value = NameTree (N (valid_place cells)) }) a there) in
      absurd (let high = counted_high a.target c in omega (arith, is, high))
  assigned (suc zero) a there c =
      let is = ap (λ (x : Assignment). x.target) (one_assignment (record { target = 6; value = NameTree (N (output_place cells)) }) a there) in
      absurd (let high = counted_high a.target c in omega (arith, is, high))
  assigned (suc (suc k)) a there c =
      let w = assign_from N cells 0 k a there in
      let is : N w.place ≡ a.target = sym (ap (λ (x : Assignment). x.target) (w.is_it ∙ ap (assignment_of N w.cell) (zero_plus w.place))) in
      let high = counted_high a.target c in
      let one = one_deep w.place (ap counts is ∙ c) in
      let e = depth_high a.target high ∙ ap value (sym is) in
      omega (arith, one, e)

  next_most : (item : Option Item) → is_register item ≡ true → (width : ℕ) → depth_of counts depth (tree_for N width item) ≤ 1
  next_most (Some (Register next)) r width =
      let e = depth_node next.place in
      let m = seen_most next 1 (one_deep next.place) in
      omega (arith, e, m)
  next_most None r width = absurd (cc)
  next_most (Some Input) r width = absurd (cc)
  next_most (Some (Constant v)) r width = absurd (cc)
  next_most (Some (Add a b)) r width = absurd (cc)
  next_most (Some (Sub a b)) r width = absurd (cc)
  next_most (Some (Shl a k)) r width = absurd (cc)
  next_most (Some (Shr a k)) r width = absurd (cc)
  next_most (Some (Mux on a b)) r width = absurd (cc)
  next_most (Some (Equal a b)) r width = absurd (cc)
  next_most (Some (Bits a high low)) r width = absurd (cc)

  given : (k : ℕ) (s : Action) → slice_get D.blocks k ≡ Some s → IsGivenWithin counts depth 1 s
  given k s there =
      let w = block_from N cells 0 k s there in
      subst (IsGivenWithin counts depth 1) (sym w.is_it) ((λ c. omega arith), (λ c. next_most w.cell.item w.register w.cell.width))

  pub has_depth : HasDepth D group 1
  has_depth = record { depth = depth; registers = depth_register; wires = wires; assigned = assigned; given = given }
