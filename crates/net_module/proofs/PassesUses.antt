-- Every use of a name in a written module passes the checks.
use Rattle.std.proofs.Common.{◌≡◌, ℕ, suc, ◌+◌, ◌<◌, ◌≤◌, Bool, true, false, not, ◌&&◌, List, [], ◌∷◌, length, Option, None, Some, slice_get, refl, sym, ◌∙◌, ap, arith, subst}
use Rattle.std.specs.Prelude.{nat_le, nat_lt, is_some, IsSome}
use Rattle.std.specs.Option.{option_map, option_map_or}
use Rattle.std.proofs.lemmas.Bool.Decides.{nat_tests}
use Rattle.std.proofs.lemmas.Option.{slice_get_within}
use Rattle.net_graph.specs.declared.cell.Cell.{Cell}
use Rattle.net_graph.specs.declared.cell.Item.{Item}
use Rattle.net_graph.specs.declared.cell.Item.TheVariants.{Input, Constant, Add, Sub, Shl, Shr, Mux, Equal, Bits, Register}
use Rattle.net_graph.specs.Name.{is_input}
use Rattle.net_graph.specs.WellFormed.{IsNetlist, OperandsBelow, SelectsWithin}
use Rattle.net_graph.specs.Cells.{cell_at}
use Rattle.net_graph.proofs.CellLemmas.{cell_at-there}
use Rattle.verilog_tree.specs.declared.tree.Signal.{Signal}
use Rattle.verilog_tree.specs.Checks.{Use, Assigned, Given, Selected, tree_uses, assigns_uses, blocks_uses, uses, used_name, is_declared, is_wrong_use, is_bad_select, undeclared, wrong_kind, bad_select}
use Rattle.verilog_tree.specs.Checks.{can_be_assigned, can_be_given}
use Rattle.net_module.specs.Written.{IsWritable, is_wire, is_register, unless, tree_for, node_assigns, node_blocks, block_for, kind_for, valid_place, output_place}
use Rattle.net_module.specs.Steps.{width_in}
use Rattle.net_module.proofs.Numbers.{number_input}
use Rattle.net_module.proofs.Cycles.{input_width, register_data, wire_parts}
use Rattle.net_module.proofs.Outputs.{valid_there, output_there}
use Rattle.net_module.proofs.CheckLists.{find_none}
use Rattle.net_module.proofs.Passes.{IsGood, AllGood, E, M, node_declared, read_node, below_node, all_declared, all_kinds, all_selects}

false_true : false ≡ true → ⊥
false_true h = cc

inside_true : (high low w : ℕ) → high < w → low ≤ high → (nat_lt high w && nat_le low high) ≡ true
inside_true high low w lt le = grind (arith, nat_tests)

-- the rest of a list of cells, from a place on
pub record IsRest (cells cs : List Cell) (p : ℕ) : Type 0 where
  pub each : (k : ℕ) (cell : Cell) → slice_get cs k ≡ Some cell → slice_get cells (p + k) ≡ Some cell

pub rest_more : (cells : List Cell) (x : Cell) (cs : List Cell) (p : ℕ) → IsRest cells (x ∷ cs) p → IsRest cells cs (p + 1)
rest_more cells x cs p rest = record { each = λ k cell at. ap (slice_get cells) (let e : p + 1 + k ≡ p + suc k = omega arith in e) ∙ rest.each (suc k) cell at }

pub rest_here : (cells : List Cell) (x : Cell) (cs : List Cell) (p : ℕ) → IsRest cells (x ∷ cs) p → slice_get cells p ≡ Some x
rest_here cells x cs p rest = ap (slice_get cells) (let e : p ≡ p + 0 = omega arith in e) ∙ rest.each 0 x refl

pub rest_all : (cells : List Cell) → IsRest cells cells 0
rest_all cells = record { each = λ k cell at. ap (slice_get cells) (let e : 0 + k ≡ k = omega arith in e) ∙ at }

module _ (cells : List Cell) (netlist : IsNetlist cells) (writable : IsWritable cells) where
  abbrev A : List Use → Type 0
  A = AllGood (E cells netlist writable)

  abbrev G : Use → Type 0
  G = IsGood (E cells netlist writable)

  abbrev Q : ℕ → ℕ
  Q = M cells netlist writable

  select_node : (place high low : ℕ) (cell : Cell) → slice_get cells place ≡ Some cell → high < cell.width → low ≤ high → G (Selected (Q place) high low)
  select_node place high low cell at inside order = by (is_input cell.item) refl
    where
      by : (b : Bool) → is_input cell.item ≡ b → G (Selected (Q place) high low)
      by true is =
          subst (λ (n : ℕ). G (Selected n high low)) (sym (number_input cells 7 place cell at is))
          (record {
            declared = refl;
            kind = refl;
            select = ap not (inside_true high low (width_in cells) (let lt : high < width_in cells = omega (arith, input_width cells netlist writable place cell at is) in lt) order);
          })
      by false is =
          let good = read_node cells netlist writable place cell at in
          record {
            declared = good.declared;
            kind = good.kind;
            select = ap (λ (o : Option Signal). not (option_map_or (λ (s : Signal). s.ranged && (nat_lt high s.width && nat_le low high)) o false)) (node_declared cells netlist writable place cell at is)
                ∙ ap not (inside_true high low cell.width inside order);
          }

  -- the right side of a node
  tree_good : (item : Item) (place count width : ℕ) (rest : List Use) → OperandsBelow place count width (Some item) → place ≤ length cells → count ≡ length cells → SelectsWithin cells (Some item) → A rest
      → A (tree_uses (tree_for Q width (Some item)) rest)
  tree_good Input place count width rest o le is within all = (record { declared = refl; kind = refl; select = refl }, all)
  tree_good (Constant v) place count width rest o le is within all = all
  tree_good (Add a b) place count width rest o le is within all =
      (below_node cells netlist writable a.place (omega (arith, o.0)), (below_node cells netlist writable b.place (omega (arith, o.1)), all))
  tree_good (Sub a b) place count width rest o le is within all =
      (below_node cells netlist writable a.place (omega (arith, o.0)), (below_node cells netlist writable b.place (omega (arith, o.1)), all))
  tree_good (Shl a by) place count width rest o le is within all = (below_node cells netlist writable a.place (omega (arith, o.0)), all)
  tree_good (Shr a by) place count width rest o le is within all = (below_node cells netlist writable a.place (omega (arith, o.0)), all)
  tree_good (Mux on a b) place count width rest o le is within all =
      (below_node cells netlist writable on.place (omega (arith, o.0)), (below_node cells netlist writable a.place (omega (arith, o.1)), (below_node cells netlist writable b.place (omega (arith, o.2)), all)))
  tree_good (Equal a b) place count width rest o le is within all =
      (below_node cells netlist writable a.place (omega (arith, o.0)), (below_node cells netlist writable b.place (omega (arith, o.1)), all))
  tree_good (Bits a high low) place count width rest o le is within all =
      let there = cell_at-there cells a.place (omega (arith, o.0)) in
      (select_node a.place high low (cell_at cells a.place) there (within.inside (cell_at cells a.place) there) o.1, all)
  tree_good (Register next) place count width rest o le is within all = (below_node cells netlist writable next.place (omega (arith, o)), all)

  cell_good : (place : ℕ) (cell : Cell) (rest : List Use) → slice_get cells place ≡ Some cell → A rest → A (tree_uses (tree_for Q cell.width cell.item) rest)
  cell_good place cell rest at all =
      let reads = netlist.well_formed.each place cell at in
      by cell.item refl (netlist.bound.each place cell at) reads.operands reads.selects
    where
      by : (item : Option Item) → cell.item ≡ item → IsSome item → OperandsBelow place (length cells) cell.width cell.item → SelectsWithin cells cell.item → A (tree_uses (tree_for Q cell.width cell.item) rest)
      by None is some o within = absurd (false_true some)
      by (Some item) is some o within =
          subst (λ (i : Option Item). A (tree_uses (tree_for Q cell.width i) rest)) (sym is)
          (tree_good item place (length cells) cell.width rest (subst (OperandsBelow place (length cells) cell.width) is o)
          (let le : place ≤ length cells = omega (arith, slice_get_within cells place cell at) in le) refl (subst (SelectsWithin cells) is within) all)

  assigned_good : (place : ℕ) (cell : Cell) → slice_get cells place ≡ Some cell → is_wire cell.item ≡ true → G (Assigned (Q place))
  assigned_good place cell at wire =
      let parts = wire_parts (is_input cell.item) (is_register cell.item) wire in
      let found = node_declared cells netlist writable place cell at parts.0 in
      record {
        declared = ap (λ (o : Option Signal). not (is_some o)) found;
        kind = ap (λ (o : Option Signal). not (option_map_or (λ (s : Signal). can_be_assigned s.kind) o false)) found ∙ ap (λ (b : Bool). not (can_be_assigned (kind_for b))) parts.1;
        select = refl;
      }

  given_good : (place : ℕ) (cell : Cell) → slice_get cells place ≡ Some cell → is_register cell.item ≡ true → G (Given (Q place))
  given_good place cell at reg =
      let found = node_declared cells netlist writable place cell at (register_data cell.item reg) in
      record {
        declared = ap (λ (o : Option Signal). not (is_some o)) found;
        kind = ap (λ (o : Option Signal). not (option_map_or (λ (s : Signal). can_be_given s.kind) o false)) found ∙ ap (λ (b : Bool). not (can_be_given (kind_for b))) reg;
        select = refl;
      }

  assigns_good : (cs : List Cell) (p : ℕ) (rest : List Use) → IsRest cells cs p → A rest → A (assigns_uses (node_assigns Q cs p) rest)
  assigns_good [] p rest is all = all
  assigns_good (x ∷ cs) p rest is all = by (is_wire x.item) refl (assigns_good cs (p + 1) rest (rest_more cells x cs p is) all)
    where
      by : (b : Bool) → is_wire x.item ≡ b → A (assigns_uses (node_assigns Q cs (p + 1)) rest)
          → A (assigns_uses (unless (not b) (record { target = Q p; value = tree_for Q x.width x.item }) (node_assigns Q cs (p + 1))) rest)
      by false e later = later
      by true e later =
          let here = rest_here cells x cs p is in
          (assigned_good p x here e, cell_good p x (assigns_uses (node_assigns Q cs (p + 1)) rest) here later)

  blocks_good : (cs : List Cell) (p : ℕ) → IsRest cells cs p → A (blocks_uses (node_blocks Q cs p))
  blocks_good [] p is = tt
  blocks_good (x ∷ cs) p is = by (is_register x.item) refl (blocks_good cs (p + 1) (rest_more cells x cs p is))
    where
      by : (b : Bool) → is_register x.item ≡ b → A (blocks_uses (node_blocks Q cs (p + 1)))
          → A (blocks_uses (unless (not b) (block_for (Q p) x.width (tree_for Q x.width x.item)) (node_blocks Q cs (p + 1))))
      by false e later = later
      by true e later =
          let here = rest_here cells x cs p is in
          let gives = given_good p x here e in (
            record { declared = refl; kind = refl; select = refl },
            (gives, (record { declared = refl; kind = refl; select = refl }, (gives, cell_good p x (blocks_uses (node_blocks Q cs (p + 1))) here later))),
          )

  all_good : A (uses (E cells netlist writable))
  all_good =
      let valid = valid_there cells netlist writable in
      let output = output_there cells netlist writable in (
        record { declared = refl; kind = refl; select = refl },
        (
          read_node cells netlist writable (valid_place cells) valid.cell valid.there,
          (
            record { declared = refl; kind = refl; select = refl },
            (read_node cells netlist writable (output_place cells) output.cell output.there, assigns_good cells 0 (blocks_uses (node_blocks Q cells 0)) (rest_all cells) (blocks_good cells 0 (rest_all cells))),
          ),
        ),
      )

  pub none_undeclared : undeclared (E cells netlist writable) ≡ None
  none_undeclared = ap (option_map used_name) (find_none (λ u. not (is_declared (E cells netlist writable) (used_name u))) (uses (E cells netlist writable)) (all_declared (E cells netlist writable) (uses (E cells netlist writable)) all_good))

  pub none_wrong : wrong_kind (E cells netlist writable) ≡ None
  none_wrong = ap (option_map used_name) (find_none (is_wrong_use (E cells netlist writable)) (uses (E cells netlist writable)) (all_kinds (E cells netlist writable) (uses (E cells netlist writable)) all_good))

  pub none_bad : bad_select (E cells netlist writable) ≡ None
  none_bad = ap (option_map used_name) (find_none (is_bad_select (E cells netlist writable)) (uses (E cells netlist writable)) (all_selects (E cells netlist writable) (uses (E cells netlist writable)) all_good))
