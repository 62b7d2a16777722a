-- Counting over the parts of a written module, node by node.
use Rattle.std.proofs.Common.{◌≡◌, ℕ, suc, ◌+◌, ◌<◌, ◌≤◌, ◌^◌, Bool, true, false, not, ◌&&◌, cond, List, [], ◌∷◌, Option, None, Some, slice_get, refl, sym, ◌∙◌, ap, subst, arith}
use Rattle.std.specs.Prelude.{nat_eq, count_by, IsSome}
use Rattle.std.specs.List.{sum_by}
use Rattle.std.proofs.lemmas.Bool.{ne_eqb, eqb-true}
use Rattle.std.proofs.lemmas.List.Sums.{sum-map, sum_by-cons}
use Rattle.net_graph.specs.declared.cell.Cell.{Cell}
use Rattle.net_graph.specs.declared.cell.Item.{Item}
use Rattle.net_graph.specs.declared.cell.Item.TheVariants.{Input, Constant, Add, Sub, Shl, Shr, Mux, Equal, Bits, Register}
use Rattle.net_graph.specs.declared.name.Name.{Name}
use Rattle.net_graph.specs.declared.name.NameKind.{NameKind}
use Rattle.net_graph.specs.declared.name.NameKind.TheVariants.{Control, Window, Copy, PreAdder, Register as Other, Table, Output, Valid}
use Rattle.net_graph.specs.Count.{total, is_adder, is_window, is_table, has_kind, one_if, adder, window, table, adders_in, windows_in, tables_in}
use Rattle.net_graph.specs.Name.{is_input}
use Rattle.net_graph.specs.WellFormed.{IsNetlist, IsNamed}
use Rattle.verilog_tree.specs.declared.tree.Kind.TheVariants.{Reg, Wire}
use Rattle.verilog_tree.specs.declared.tree.Signal.{Signal}
use Rattle.verilog_tree.specs.Tree.{Name as NameTree, Action, Assignment, Design}
use Rattle.verilog_tree.specs.Names as texts
use Rattle.verilog_tree.specs.Names.{text_of}
use Rattle.verilog_tree.specs.Counted as text
use Rattle.verilog_tree.specs.Counted.{in_group, adders_of, is_reg, counted, given_adders}
use Rattle.net_module.specs.Written.{is_register, is_wire, unless, own_number, number_after, number_in, number_of, node_signal, node_signals, tree_for, node_assigns, block_for, node_blocks, kind_for, output_place, valid_place, written_module}
use Rattle.net_module.proofs.NodeTexts.{node_text_of}
use Rattle.net_text.specs.Small.{AreSmall}
use Rattle.net_text.proofs.Names.{nameless_shape, kind_shape, shape_for, text_shape, small_shape, IsTail, tail_here, tail_more, tail_all}
use Rattle.net_text.proofs.Spelled.{CtlNode, InGroup, shape_text}
use Rattle.net_graph.specs.Tables.{HasPlainTables}
use Rattle.module_costs.specs.Counting.{CountsAs}
use Rattle.module_costs.proofs.Prefixes.{is_shape_in, shape_in_group, is_lettered, shape_numbered}

false_true : false ≡ true → ⊥
false_true h = cc

sum_one : {A : Type 0} (f : A → ℕ) (x : A) → sum_by f (x ∷ []) ≡ f x
sum_one f x = sum_by-cons f x [] ∙ (omega arith)

-- ---- the names of a node

-- a node without a name is of its own group
pub nameless_in : (group own place : ℕ) → 1 ≤ group → is_shape_in group (nameless_shape own place) ≡ nat_eq own group
nameless_in group own place some = by (nat_eq own 0) refl
  where
    by : (b : Bool) → nat_eq own 0 ≡ b → is_shape_in group (cond b (CtlNode place) (InGroup own 110 place)) ≡ nat_eq own group
    by true e = sym (ne_eqb own group (λ same. zero_apart own group some e same))
      where
        zero_apart : (m n : ℕ) → 1 ≤ n → nat_eq m 0 ≡ true → m ≡ n → ⊥
        zero_apart m n le is same = let z = eqb-true m 0 is in omega (arith, le, z, same)
    by false e = refl

nameless_unlettered : (group letter own place : ℕ) → nat_eq 110 letter ≡ false → is_lettered group letter (nameless_shape own place) ≡ false
nameless_unlettered group letter own place other = by (nat_eq own 0)
  where
    no : (a b : Bool) → b ≡ false → (a && b) ≡ false
    no true b e = e
    no false b e = refl

    by : (b : Bool) → is_lettered group letter (cond b (CtlNode place) (InGroup own 110 place)) ≡ false
    by true = refl
    by false = no (nat_eq own group) (nat_eq 110 letter) other

never : (a : Bool) → (a && false) ≡ false
never true = refl
never false = refl

always : (a : Bool) → (a && true) ≡ a
always true = refl
always false = refl

-- a window register is named by the letter w
window_letter : (group : ℕ) (name : Option Name) (own place : ℕ) → is_lettered group 119 (shape_for name own place) ≡ has_kind is_window group name
window_letter group None own place = nameless_unlettered group 119 own place refl
window_letter group (Some name) own place = by name.kind
  where
    by : (kind : NameKind) → is_lettered group 119 (kind_shape kind name.group name.number own place) ≡ (nat_eq name.group group && is_window kind)
    by Control = sym (never (nat_eq name.group group))
    by Window = refl
    by Copy = refl
    by PreAdder = refl
    by Other = refl
    by Table = refl
    by Output = sym (never (nat_eq name.group group))
    by Valid = nameless_unlettered group 119 own place refl ∙ sym (never (nat_eq name.group group))

-- a table is named by the letter t
table_letter : (group : ℕ) (name : Option Name) (own place : ℕ) → is_lettered group 116 (shape_for name own place) ≡ has_kind is_table group name
table_letter group None own place = nameless_unlettered group 116 own place refl
table_letter group (Some name) own place = by name.kind
  where
    by : (kind : NameKind) → is_lettered group 116 (kind_shape kind name.group name.number own place) ≡ (nat_eq name.group group && is_table kind)
    by Control = sym (never (nat_eq name.group group))
    by Window = refl
    by Copy = refl
    by PreAdder = refl
    by Other = refl
    by Table = refl
    by Output = sym (never (nat_eq name.group group))
    by Valid = nameless_unlettered group 116 own place refl ∙ sym (never (nat_eq name.group group))

-- ---- node by node

module _ (cells : List Cell) (netlist : IsNetlist cells) (small : AreSmall cells) (plain : HasPlainTables cells) (group : ℕ) (some : 1 ≤ group) (low : group < 2 ^ 64) where
  abbrev D : Design
  D = written_module cells

  abbrev N : ℕ → ℕ
  N = number_of cells

  named : (place : ℕ) (cell : Cell) → slice_get cells place ≡ Some cell → is_input cell.item ≡ false → text_of D (N place) ≡ shape_text (shape_for cell.name cell.group place)
  named place cell at data_node = node_text_of cells place cell at data_node ∙ text_shape cell.name cell.group place

  -- ---- adders

  -- an adder has no name, or is the node shown as `out_valid`
  adder_shape : (place : ℕ) (cell : Cell) → slice_get cells place ≡ Some cell → is_adder cell.item ≡ true → IsNamed cell.name cell.item → shape_for cell.name cell.group place ≡ nameless_shape cell.group place
  adder_shape place cell at adds n = by cell.name refl
    where
      no_register : (item : Option Item) → is_adder item ≡ true → (kind : NameKind) (of number : ℕ) → IsNamed (Some (record { group = of; kind = kind; number = number })) item → is_table kind ≡ false
          → kind_shape kind of number cell.group place ≡ nameless_shape cell.group place
      no_register (Some (Add a b)) e Valid of number m t = refl
      no_register (Some (Sub a b)) e Valid of number m t = refl
      no_register (Some (Add a b)) e Table of number m t = absurd (cc)
      no_register (Some (Sub a b)) e Table of number m t = absurd (cc)
      no_register (Some (Add a b)) e Control of number m t = absurd m
      no_register (Some (Add a b)) e Window of number m t = absurd m
      no_register (Some (Add a b)) e Copy of number m t = absurd m
      no_register (Some (Add a b)) e PreAdder of number m t = absurd m
      no_register (Some (Add a b)) e Other of number m t = absurd m
      no_register (Some (Add a b)) e Output of number m t = absurd m
      no_register (Some (Sub a b)) e Control of number m t = absurd m
      no_register (Some (Sub a b)) e Window of number m t = absurd m
      no_register (Some (Sub a b)) e Copy of number m t = absurd m
      no_register (Some (Sub a b)) e PreAdder of number m t = absurd m
      no_register (Some (Sub a b)) e Other of number m t = absurd m
      no_register (Some (Sub a b)) e Output of number m t = absurd m
      no_register None e kind of number m t = absurd (cc)
      no_register (Some Input) e kind of number m t = absurd (cc)
      no_register (Some (Constant v)) e kind of number m t = absurd (cc)
      no_register (Some (Shl a k)) e kind of number m t = absurd (cc)
      no_register (Some (Shr a k)) e kind of number m t = absurd (cc)
      no_register (Some (Mux on a b)) e kind of number m t = absurd (cc)
      no_register (Some (Equal a b)) e kind of number m t = absurd (cc)
      no_register (Some (Bits a high low)) e kind of number m t = absurd (cc)
      no_register (Some (Register next)) e kind of number m t = absurd (cc)

      no_table : (name : Name) → cell.name ≡ Some name → is_table name.kind ≡ false
      no_table name e = unless_true (is_table name.kind) (λ t. absurd (let f = plain.no_adder place cell name at e t in cc))
        where
          unless_true : (b : Bool) → (b ≡ true → b ≡ false) → b ≡ false
          unless_true true f = f refl
          unless_true false f = refl

      by : (name : Option Name) → cell.name ≡ name → shape_for cell.name cell.group place ≡ nameless_shape cell.group place
      by None e = ap (λ (o : Option Name). shape_for o cell.group place) e
      by (Some name) e =
          ap (λ (o : Option Name). shape_for o cell.group place) e
          ∙ no_register cell.item adds name.kind name.group name.number (subst (λ (o : Option Name). IsNamed o cell.item) e n) (no_table name e)

  adder_not_input : (item : Option Item) → is_adder item ≡ true → is_input item ≡ false
  adder_not_input None e = refl
  adder_not_input (Some Input) e = absurd (cc)
  adder_not_input (Some (Constant v)) e = refl
  adder_not_input (Some (Add a b)) e = refl
  adder_not_input (Some (Sub a b)) e = refl
  adder_not_input (Some (Shl a k)) e = refl
  adder_not_input (Some (Shr a k)) e = refl
  adder_not_input (Some (Mux on a b)) e = refl
  adder_not_input (Some (Equal a b)) e = refl
  adder_not_input (Some (Bits a high low)) e = refl
  adder_not_input (Some (Register next)) e = refl

  -- the name of an adder is of its group
  adder_in_group : (place : ℕ) (cell : Cell) → slice_get cells place ≡ Some cell → is_adder cell.item ≡ true → in_group D group (N place) ≡ nat_eq cell.group group
  adder_in_group place cell at adds =
      ap (texts.is_in_group group) (named place cell at (adder_not_input cell.item adds))
      ∙ shape_in_group (shape_for cell.name cell.group place) group (small_shape cells netlist small place cell at) low
      ∙ ap (is_shape_in group) (adder_shape place cell at adds (netlist.well_formed.each place cell at).named)
      ∙ nameless_in group cell.group place some

  abbrev assigned : Assignment → ℕ
  assigned a = cond (in_group D group a.target) (text.adders_in a.value) 0

  if_zero : (b : Bool) → cond {A = ℕ} b 0 0 ≡ 0
  if_zero true = refl
  if_zero false = refl

  one_adder : (b : Bool) (own : Bool) → b ≡ own → cond {A = ℕ} b 1 0 ≡ one_if (own && true)
  one_adder true own e = ap (λ (c : Bool). one_if (c && true)) e
  one_adder false own e = ap (λ (c : Bool). one_if (c && true)) e

  no_adder : (own : Bool) → 0 ≡ one_if (own && false)
  no_adder true = refl
  no_adder false = refl

  -- what a node's assignment adds
  node_adders : (place : ℕ) (cell : Cell) → slice_get cells place ≡ Some cell → sum_by assigned (unless (not (is_wire cell.item)) (record { target = N place; value = tree_for N cell.width cell.item }) []) ≡ adder group cell
  node_adders place cell at = by cell.item refl
    where
      by : (item : Option Item) → cell.item ≡ item → sum_by assigned (unless (not (is_wire item)) (record { target = N place; value = tree_for N cell.width item }) []) ≡ one_if (nat_eq cell.group group && is_adder item)
      by None e = sum_one assigned (record { target = N place; value = tree_for N cell.width None }) ∙ if_zero (in_group D group (N place)) ∙ no_adder (nat_eq cell.group group)
      by (Some Input) e = no_adder (nat_eq cell.group group)
      by (Some (Constant v)) e = sum_one assigned (record { target = N place; value = tree_for N cell.width (Some (Constant v)) }) ∙ if_zero (in_group D group (N place)) ∙ no_adder (nat_eq cell.group group)
      by (Some (Add a b)) e =
          sum_one assigned (record { target = N place; value = tree_for N cell.width (Some (Add a b)) }) ∙ one_adder (in_group D group (N place)) (nat_eq cell.group group) (adder_in_group place cell at (ap is_adder e))
      by (Some (Sub a b)) e =
          sum_one assigned (record { target = N place; value = tree_for N cell.width (Some (Sub a b)) }) ∙ one_adder (in_group D group (N place)) (nat_eq cell.group group) (adder_in_group place cell at (ap is_adder e))
      by (Some (Shl a k)) e = sum_one assigned (record { target = N place; value = tree_for N cell.width (Some (Shl a k)) }) ∙ if_zero (in_group D group (N place)) ∙ no_adder (nat_eq cell.group group)
      by (Some (Shr a k)) e = sum_one assigned (record { target = N place; value = tree_for N cell.width (Some (Shr a k)) }) ∙ if_zero (in_group D group (N place)) ∙ no_adder (nat_eq cell.group group)
      by (Some (Mux on a b)) e = sum_one assigned (record { target = N place; value = tree_for N cell.width (Some (Mux on a b)) }) ∙ if_zero (in_group D group (N place)) ∙ no_adder (nat_eq cell.group group)
      by (Some (Equal a b)) e = sum_one assigned (record { target = N place; value = tree_for N cell.width (Some (Equal a b)) }) ∙ if_zero (in_group D group (N place)) ∙ no_adder (nat_eq cell.group group)
      by (Some (Bits a high low)) e = sum_one assigned (record { target = N place; value = tree_for N cell.width (Some (Bits a high low)) }) ∙ if_zero (in_group D group (N place)) ∙ no_adder (nat_eq cell.group group)
      by (Some (Register next)) e = no_adder (nat_eq cell.group group)

  sum_unless : {A : Type 0} (f : A → ℕ) (b : Bool) (x : A) (rest : List A) → sum_by f (unless b x rest) ≡ sum_by f (unless b x []) + sum_by f rest
  sum_unless f true x rest = omega arith
  sum_unless f false x rest = sum_by-cons f x rest ∙ ap (λ (n : ℕ). n + sum_by f rest) (sym (sum_one f x))

  all_adders : (cs : List Cell) (place : ℕ) → IsTail cells netlist small cs place → sum_by assigned (node_assigns N cs place) ≡ total (adder group) cs
  all_adders [] place tail = refl
  all_adders (cell ∷ cs) place tail =
      let here = tail_here cells netlist small cell cs place tail in
      let own = node_adders place cell here in
      let rest = all_adders cs (place + 1) (tail_more cells netlist small cell cs place tail) in
      sum_unless assigned (not (is_wire cell.item)) (record { target = N place; value = tree_for N cell.width cell.item }) (node_assigns N cs (place + 1))
      ∙ (λ i. own i + rest i)

  given : Action → ℕ
  given = given_adders (in_group D group)

  -- a register's block has no adder
  block_adders : (cell : Cell) (place : ℕ) → is_register cell.item ≡ true → given_adders (in_group D group) (block_for (N place) cell.width (tree_for N cell.width cell.item)) ≡ 0
  block_adders cell place is = by cell.item is
    where
      by : (item : Option Item) → is_register item ≡ true → given_adders (in_group D group) (block_for (N place) cell.width (tree_for N cell.width item)) ≡ 0
      by (Some (Register next)) e = let z = if_zero (in_group D group (N place)) in omega (arith, z)
      by None e = absurd (cc)
      by (Some Input) e = absurd (cc)
      by (Some (Constant v)) e = absurd (cc)
      by (Some (Add a b)) e = absurd (cc)
      by (Some (Sub a b)) e = absurd (cc)
      by (Some (Shl a k)) e = absurd (cc)
      by (Some (Shr a k)) e = absurd (cc)
      by (Some (Mux on a b)) e = absurd (cc)
      by (Some (Equal a b)) e = absurd (cc)
      by (Some (Bits a high low)) e = absurd (cc)

  no_block_adders : (cs : List Cell) (place : ℕ) → sum_by (given_adders (in_group D group)) (node_blocks N cs place) ≡ 0
  no_block_adders [] place = refl
  no_block_adders (cell ∷ cs) place =
      by (is_register cell.item) refl (no_block_adders cs (place + 1))
    where
      by : (b : Bool) → is_register cell.item ≡ b → sum_by (given_adders (in_group D group)) (node_blocks N cs (place + 1)) ≡ 0
          → sum_by (given_adders (in_group D group)) (unless (not b) (block_for (N place) cell.width (tree_for N cell.width cell.item)) (node_blocks N cs (place + 1))) ≡ 0
      by true e rest = sum_by-cons (given_adders (in_group D group)) (block_for (N place) cell.width (tree_for N cell.width cell.item)) (node_blocks N cs (place + 1)) ∙ (let own = block_adders cell place e in omega (arith, own, rest))
      by false e rest = rest

  pub adders_same : adders_of D (in_group D group) ≡ adders_in group cells
  adders_same =
      let assigns = sum-map assigned D.assigns in
      let blocks = sum-map (given_adders (in_group D group)) D.blocks in
      let nodes = all_adders cells 0 (tail_all cells netlist small) in
      let none = no_block_adders cells 0 in
      let valid = if_zero (in_group D group 5) in
      let output = if_zero (in_group D group 6) in
      let first : Assignment = record { target = 5; value = NameTree (N (valid_place cells)) } in
      let second : Assignment = record { target = 6; value = NameTree (N (output_place cells)) } in
      let rest = node_assigns N cells 0 in
      let heads : sum_by assigned D.assigns ≡ sum_by assigned rest = (
      sum_by-cons assigned first (second ∷ rest) ∙ ap (λ (n : ℕ). n + sum_by assigned (second ∷ rest)) valid
      ∙ (let e : 0 + sum_by assigned (second ∷ rest) ≡ sum_by assigned (second ∷ rest) = omega arith in e)
      ∙ sum_by-cons assigned second rest ∙ ap (λ (n : ℕ). n + sum_by assigned rest) output
      ∙ (let e : 0 + sum_by assigned rest ≡ sum_by assigned rest = omega arith in e)
      ) in
      omega (arith, assigns, blocks, nodes, none, heads)

  -- ---- window registers and tables

  abbrev is_window_signal : Signal → Bool
  is_window_signal s = is_reg s.kind && texts.is_window group (text_of D s.name)

  abbrev is_table_signal : Signal → Bool
  is_table_signal s = text.is_wire s.kind && texts.is_table group (text_of D s.name)

  -- the first of these nodes' names has this number
  record IsNumbered (cs : List Cell) (place first : ℕ) : Type 0 where
    each : (k : ℕ) → N (place + k) ≡ number_in cs first k

  numbered_here : (cell : Cell) (cs : List Cell) (place first : ℕ) → IsNumbered (cell ∷ cs) place first → is_input cell.item ≡ false → N place ≡ first
  numbered_here cell cs place first is data_node = ap N (let e : place ≡ place + 0 = omega arith in e) ∙ is.each 0 ∙ ap (λ (b : Bool). own_number b first) data_node

  numbered_more : (cell : Cell) (cs : List Cell) (place first : ℕ) → IsNumbered (cell ∷ cs) place first → IsNumbered cs (place + 1) (number_after (is_input cell.item) first)
  numbered_more cell cs place first is = record { each = λ k. ap N (let e : place + 1 + k ≡ place + suc k = omega arith in e) ∙ is.each (suc k) }

  lettered : (letter place : ℕ) (cell : Cell) → slice_get cells place ≡ Some cell → is_input cell.item ≡ false → texts.is_numbered group (letter ∷ []) (text_of D (N place)) ≡ is_lettered group letter (shape_for cell.name cell.group place)
  lettered letter place cell at data_node =
      ap (texts.is_numbered group (letter ∷ [])) (named place cell at data_node) ∙ shape_numbered (shape_for cell.name cell.group place) group letter (small_shape cells netlist small place cell at) low

  -- the name of a window is of a register
  window_register : (kind : NameKind) (of number : ℕ) (item : Option Item) → IsSome item → IsNamed (Some (record { group = of; kind = kind; number = number })) item → is_window kind ≡ true → is_register item ≡ true
  window_register kind of number None s m e = absurd (false_true s)
  window_register kind of number (Some (Register next)) s m e = refl
  window_register Window of number (Some Input) s m e = absurd m
  window_register Window of number (Some (Constant v)) s m e = absurd m
  window_register Window of number (Some (Add a b)) s m e = absurd m
  window_register Window of number (Some (Sub a b)) s m e = absurd m
  window_register Window of number (Some (Shl a k)) s m e = absurd m
  window_register Window of number (Some (Shr a k)) s m e = absurd m
  window_register Window of number (Some (Mux on a b)) s m e = absurd m
  window_register Window of number (Some (Equal a b)) s m e = absurd m
  window_register Window of number (Some (Bits a high low)) s m e = absurd m
  window_register Control of number item s m e = absurd (cc)
  window_register Copy of number item s m e = absurd (cc)
  window_register PreAdder of number item s m e = absurd (cc)
  window_register Other of number item s m e = absurd (cc)
  window_register Table of number item s m e = absurd (cc)
  window_register Output of number item s m e = absurd (cc)
  window_register Valid of number item s m e = absurd (cc)

  false_unless : (b : Bool) → (b ≡ true → ⊥) → b ≡ false
  false_unless true f = absurd (f refl)
  false_unless false f = refl

  second_of : (a b : Bool) → (a && b) ≡ true → b ≡ true
  second_of true b e = e
  second_of false b e = absurd (cc)

  -- a node that is no register is no window's
  no_window : (cell : Cell) → IsSome cell.item → IsNamed cell.name cell.item → is_register cell.item ≡ false → has_kind is_window group cell.name ≡ false
  no_window cell s n other = by cell.name n
    where
      by : (name : Option Name) → IsNamed name cell.item → has_kind is_window group name ≡ false
      by None m = refl
      by (Some name) m =
          false_unless (nat_eq name.group group && is_window name.kind) (λ e.
          let r = window_register name.kind name.group name.number cell.item s m (second_of (nat_eq name.group group) (is_window name.kind) e) in absurd (cc))

  -- a register is no table
  no_table_register : (cell : Cell) → IsNamed cell.name cell.item → is_register cell.item ≡ true → has_kind is_table group cell.name ≡ false
  no_table_register cell n is = by cell.name cell.item n is
    where
      of_kind : (kind : NameKind) (of number : ℕ) (item : Option Item) → IsNamed (Some (record { group = of; kind = kind; number = number })) item → is_register item ≡ true → is_table kind ≡ false
      of_kind Table of number (Some (Register next)) m e = absurd m
      of_kind Table of number None m e = absurd (cc)
      of_kind Table of number (Some Input) m e = absurd (cc)
      of_kind Table of number (Some (Constant v)) m e = absurd (cc)
      of_kind Table of number (Some (Add a b)) m e = absurd (cc)
      of_kind Table of number (Some (Sub a b)) m e = absurd (cc)
      of_kind Table of number (Some (Shl a k)) m e = absurd (cc)
      of_kind Table of number (Some (Shr a k)) m e = absurd (cc)
      of_kind Table of number (Some (Mux on a b)) m e = absurd (cc)
      of_kind Table of number (Some (Equal a b)) m e = absurd (cc)
      of_kind Table of number (Some (Bits a high low)) m e = absurd (cc)
      of_kind Control of number item m e = refl
      of_kind Window of number item m e = refl
      of_kind Copy of number item m e = refl
      of_kind PreAdder of number item m e = refl
      of_kind Other of number item m e = refl
      of_kind Output of number item m e = refl
      of_kind Valid of number item m e = refl

      by : (name : Option Name) (item : Option Item) → IsNamed name item → is_register item ≡ true → has_kind is_table group name ≡ false
      by None item m e = refl
      by (Some name) item m e = ap (λ (b : Bool). nat_eq name.group group && b) (of_kind name.kind name.group name.number item m e) ∙ never (nat_eq name.group group)

  input_no_table : (place : ℕ) (cell : Cell) → slice_get cells place ≡ Some cell → is_input cell.item ≡ true → has_kind is_table group cell.name ≡ false
  input_no_table place cell at is = by cell.name refl
    where
      by : (name : Option Name) → cell.name ≡ name → has_kind is_table group name ≡ false
      by None e = refl
      by (Some name) e = false_unless (nat_eq name.group group && is_table name.kind) (λ t. absurd (let f = plain.no_input place cell name at e (second_of (nat_eq name.group group) (is_table name.kind) t) in cc))

  input_no_register : (item : Option Item) → is_input item ≡ true → is_register item ≡ false
  input_no_register (Some Input) e = refl
  input_no_register None e = absurd (cc)
  input_no_register (Some (Constant v)) e = absurd (cc)
  input_no_register (Some (Add a b)) e = absurd (cc)
  input_no_register (Some (Sub a b)) e = absurd (cc)
  input_no_register (Some (Shl a k)) e = absurd (cc)
  input_no_register (Some (Shr a k)) e = absurd (cc)
  input_no_register (Some (Mux on a b)) e = absurd (cc)
  input_no_register (Some (Equal a b)) e = absurd (cc)
  input_no_register (Some (Bits a high low)) e = absurd (cc)
  input_no_register (Some (Register next)) e = absurd (cc)

  counts_one : (b c : Bool) → b ≡ c → cond {A = ℕ} b 1 0 ≡ one_if c
  counts_one true c e = ap one_if e
  counts_one false c e = ap one_if e

  -- what a node's declaration counts, for windows and for tables
  node_window : (place first : ℕ) (cell : Cell) → slice_get cells place ≡ Some cell → (is_input cell.item ≡ false → N place ≡ first) → sum_by (λ s. cond (is_window_signal s) 1 0) (unless (is_input cell.item) (node_signal cell first) []) ≡ window group cell
  node_window place first cell at number =
      let reads = netlist.well_formed.each place cell at in
      by (is_input cell.item) (is_register cell.item) refl refl reads.named (netlist.bound.each place cell at)
    where
      by : (input register : Bool) → is_input cell.item ≡ input → is_register cell.item ≡ register → IsNamed cell.name cell.item → IsSome cell.item
          → sum_by (λ s. cond (is_window_signal s) 1 0) (unless input (record { name = first; kind = kind_for register; signed = true; ranged = true; width = cell.width; place = 0 }) []) ≡ one_if (has_kind is_window group cell.name)
      by true register e f n s = sym (ap one_if (no_window cell s n (input_no_register cell.item e)))
      by false true e f n s =
          let is = ap (λ (k : ℕ). texts.is_window group (text_of D k)) (sym (number e)) ∙ lettered 119 place cell at e ∙ window_letter group cell.name cell.group place in
          sum_one (λ s. cond (is_window_signal s) 1 0) (record { name = first; kind = Reg; signed = true; ranged = true; width = cell.width; place = 0 }) ∙ counts_one (texts.is_window group (text_of D first)) (has_kind is_window group cell.name) is
      by false false e f n s = sym (ap one_if (no_window cell s n f))

  node_table : (place first : ℕ) (cell : Cell) → slice_get cells place ≡ Some cell → (is_input cell.item ≡ false → N place ≡ first) → sum_by (λ s. cond (is_table_signal s) 1 0) (unless (is_input cell.item) (node_signal cell first) []) ≡ table group cell
  node_table place first cell at number =
      let reads = netlist.well_formed.each place cell at in
      by (is_input cell.item) (is_register cell.item) refl refl reads.named
    where
      by : (input register : Bool) → is_input cell.item ≡ input → is_register cell.item ≡ register → IsNamed cell.name cell.item
          → sum_by (λ s. cond (is_table_signal s) 1 0) (unless input (record { name = first; kind = kind_for register; signed = true; ranged = true; width = cell.width; place = 0 }) []) ≡ one_if (has_kind is_table group cell.name)
      by true register e f n = sym (ap one_if (input_no_table place cell at e))
      by false true e f n = sym (ap one_if (no_table_register cell n f))
      by false false e f n =
          let is = ap (λ (k : ℕ). texts.is_table group (text_of D k)) (sym (number e)) ∙ lettered 116 place cell at e ∙ table_letter group cell.name cell.group place in
          sum_one (λ s. cond (is_table_signal s) 1 0) (record { name = first; kind = Wire; signed = true; ranged = true; width = cell.width; place = 0 }) ∙ counts_one (texts.is_table group (text_of D first)) (has_kind is_table group cell.name) is

  all_signals : (f : Signal → ℕ) (count : Cell → ℕ)
      → ((place first : ℕ) (cell : Cell) → slice_get cells place ≡ Some cell → (is_input cell.item ≡ false → N place ≡ first) → sum_by f (unless (is_input cell.item) (node_signal cell first) []) ≡ count cell)
      → (cs : List Cell) (place first : ℕ) → IsTail cells netlist small cs place → IsNumbered cs place first → sum_by f (node_signals cs first) ≡ total count cs
  all_signals f count one [] place first tail numbered = refl
  all_signals f count one (cell ∷ cs) place first tail numbered =
      let own = one place first cell (tail_here cells netlist small cell cs place tail) (numbered_here cell cs place first numbered) in
      let rest = all_signals f count one cs (place + 1) (number_after (is_input cell.item) first) (tail_more cells netlist small cell cs place tail) (numbered_more cell cs place first numbered) in
      sum_unless f (is_input cell.item) (node_signal cell first) (node_signals cs (number_after (is_input cell.item) first)) ∙ (λ i. own i + rest i)

  numbered_all : IsNumbered cells 0 7
  numbered_all = record { each = λ k. ap N (let e : 0 + k ≡ k = omega arith in e) }

  pub windows_same : count_by (λ s. is_reg s.kind && texts.is_window group (text_of D s.name)) D.signals ≡ windows_in group cells
  windows_same = all_signals (λ s. cond (is_window_signal s) 1 0) (window group) node_window cells 0 7 (tail_all cells netlist small) numbered_all

  pub tables_same : count_by (λ s. text.is_wire s.kind && texts.is_table group (text_of D s.name)) D.signals ≡ tables_in group cells
  tables_same = all_signals (λ s. cond (is_table_signal s) 1 0) (table group) node_table cells 0 7 (tail_all cells netlist small) numbered_all

pub counts_as : (cells : List Cell) → IsNetlist cells → AreSmall cells → HasPlainTables cells → CountsAs cells
counts_as cells netlist small plain = record {
  each = λ group some low i. record {
    adders = adders_same cells netlist small plain group some low i;
    windows = windows_same cells netlist small plain group some low i;
    tables = tables_same cells netlist small plain group some low i;
  };
}
