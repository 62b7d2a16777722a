-- The statements of a written module that drive the names of a linear group have no other operators than its nodes.
use Rattle.std.proofs.Common.{◌≡◌, ℕ, zero, suc, ◌+◌, ◌<◌, ◌≤◌, ◌^◌, Bool, true, false, not, ◌&&◌, List, Option, None, Some, slice_get, refl, sym, ◌∙◌, ap, subst, arith}
use Rattle.std.specs.Prelude.{nat_eq, IsSome}
use Rattle.std.proofs.lemmas.Bool.{eqb-true}
use Rattle.net_graph.specs.declared.cell.Cell.{Cell}
use Rattle.net_graph.specs.declared.cell.Item.{Item}
use Rattle.net_graph.specs.declared.cell.Item.TheVariants.{Input, Constant, Add, Sub, Shl, Shr, Mux, Equal, Bits, Register}
use Rattle.net_graph.specs.declared.name.Name.{Name}
use Rattle.net_graph.specs.declared.name.NameKind.{NameKind}
use Rattle.net_graph.specs.declared.name.NameKind.TheVariants.{Control, Window, Copy, PreAdder, Register as Other, Table, Output, Valid}
use Rattle.net_graph.specs.Control.{IsOfControl}
use Rattle.net_graph.specs.Count.{is_table}
use Rattle.net_graph.specs.Name.{is_input, is_control_kind, is_control_name, IsWireKind, IsWireName}
use Rattle.net_graph.specs.WellFormed.{IsNetlist, IsNamed}
use Rattle.pipeline_balance.specs.Shapes.{IsLinearItem, HasLinearItems}
use Rattle.verilog_tree.specs.Tree.{Name as NameTree, Action, Assignment, Design}
use Rattle.verilog_tree.specs.Names as texts
use Rattle.verilog_tree.specs.Names.{text_of}
use Rattle.verilog_tree.specs.Counted.{in_group, is_linear}
use Rattle.net_module.specs.Written.{is_register, is_wire, number_of, nameless, text_for, tree_for, output_place, valid_place, written_module}
use Rattle.net_module.proofs.Cycles.{wire_parts, register_is}
use Rattle.net_module.proofs.Lists.{assignment_of, assign_from}
use Rattle.net_module.proofs.NodeTexts.{node_text_of}
use Rattle.net_text.specs.Small.{AreSmall}
use Rattle.net_text.proofs.Names.{kind_shape, shape_for, text_shape, small_shape}
use Rattle.net_graph.specs.Tables.{HasOwnTables}
use Rattle.module_costs.proofs.Prefixes.{is_shape_in, shape_in_group}
use Rattle.module_costs.proofs.Sums.{nameless_in}
use Rattle.module_costs.proofs.Written.{block_from}
use Rattle.module_shapes.specs.Shapes.{IsGivenLinear, HasLinearShapes}

true_false : true ≡ false → ⊥
true_false h = cc

-- ---- a control node's name

nameless_control : (group place : ℕ) → nat_eq group 0 ≡ true → texts.is_control (nameless group place) ≡ true
nameless_control group place is = rw is refl

kind_control : (kind : NameKind) (named number group place : ℕ) → is_control_kind kind group ≡ true → texts.is_control (text_for (Some (record { group = named; kind = kind; number = number })) group place) ≡ true
kind_control Control named number group place is = refl
kind_control Valid named number group place is = nameless_control group place is
kind_control Window named number group place is = absurd (true_false (sym is))
kind_control Copy named number group place is = absurd (true_false (sym is))
kind_control PreAdder named number group place is = absurd (true_false (sym is))
kind_control Other named number group place is = absurd (true_false (sym is))
kind_control Table named number group place is = absurd (true_false (sym is))
kind_control Output named number group place is = absurd (true_false (sym is))

control_text : (name : Option Name) (group place : ℕ) → is_control_name name group ≡ true → texts.is_control (text_for name group place) ≡ true
control_text None group place is = nameless_control group place is
control_text (Some name) group place is = kind_control name.kind name.group name.number group place is

both : (a b : Bool) → (a && not b) ≡ true → (a ≡ true) × (b ≡ false)
both true false e = (refl, refl)
both true true e = absurd (true_false (sym e))
both false b e = absurd (true_false (sym e))

control_there : (cells : List Cell) (place : ℕ) → IsOfControl cells place → texts.is_control (text_of (written_module cells) (number_of cells place)) ≡ true
control_there cells place is =
    let parts = both (is_control_name is.cell.name is.cell.group) (is_input is.cell.item) is.control in
    ap texts.is_control (node_text_of cells place is.cell is.there parts.1) ∙ control_text is.cell.name is.cell.group place parts.0

-- ---- right sides

tree_linear : (cells : List Cell) (width : ℕ) (item : Option Item) → IsLinearItem cells item → is_linear (written_module cells) (tree_for (number_of cells) width item) ≡ true
tree_linear cells width None l = refl
tree_linear cells width (Some Input) l = refl
tree_linear cells width (Some (Constant v)) l = refl
tree_linear cells width (Some (Add a b)) l = refl
tree_linear cells width (Some (Sub a b)) l = refl
tree_linear cells width (Some (Shl a by)) l = refl
tree_linear cells width (Some (Shr a by)) l = absurd l
tree_linear cells width (Some (Mux on a b)) l = ap (λ (c : Bool). c && true) (control_there cells on.place l)
tree_linear cells width (Some (Equal a b)) l = absurd l
tree_linear cells width (Some (Bits a high low)) l = absurd l
tree_linear cells width (Some (Register next)) l = refl

-- a register takes a name
next_linear : (cells : List Cell) (width : ℕ) (item : Option Item) → is_register item ≡ true → is_linear (written_module cells) (tree_for (number_of cells) width item) ≡ true
next_linear cells width item is =
    let r = register_is item is in ap (λ (i : Option Item). is_linear (written_module cells) (tree_for (number_of cells) width i)) r.1

-- ---- groups

wire_named : (name : Name) (item : Option Item) → IsSome item → is_wire item ≡ true → IsNamed (Some name) item → IsWireName name
wire_named name None s w n = absurd (true_false (sym s))
wire_named name (Some Input) s w n = absurd (true_false (sym w))
wire_named name (Some (Register next)) s w n = absurd (true_false (sym w))
wire_named name (Some (Constant v)) s w n = n
wire_named name (Some (Add a b)) s w n = n
wire_named name (Some (Sub a b)) s w n = n
wire_named name (Some (Shl a by)) s w n = n
wire_named name (Some (Shr a by)) s w n = n
wire_named name (Some (Mux on a b)) s w n = n
wire_named name (Some (Equal a b)) s w n = n
wire_named name (Some (Bits a high low)) s w n = n

module _ (cells : List Cell) (netlist : IsNetlist cells) (small : AreSmall cells) (own : HasOwnTables cells) (group : ℕ) (some : 1 ≤ group) (low : group < 2 ^ 64) where
  abbrev D : Design
  D = written_module cells

  abbrev N : ℕ → ℕ
  N = number_of cells

  kind_group : (kind : NameKind) (named number node place : ℕ) → IsWireKind kind named number → (is_table kind ≡ true → named ≡ node) → is_shape_in group (kind_shape kind named number node place) ≡ true → node ≡ group
  kind_group Valid named number node place is tables e = eqb-true node group (sym (nameless_in group node place some) ∙ e)
  kind_group Table named number node place is tables e = sym (tables refl) ∙ eqb-true named group e
  kind_group Control named number node place is tables e = absurd is
  kind_group Window named number node place is tables e = absurd is
  kind_group Copy named number node place is tables e = absurd is
  kind_group PreAdder named number node place is tables e = absurd is
  kind_group Other named number node place is tables e = absurd is
  kind_group Output named number node place is tables e = absurd is

  -- a wire that is named as one of the group is of it
  wire_group : (place : ℕ) (cell : Cell) → slice_get cells place ≡ Some cell → is_wire cell.item ≡ true → in_group D group (N place) ≡ true → cell.group ≡ group
  wire_group place cell there wire counts =
      let shaped : is_shape_in group (shape_for cell.name cell.group place) ≡ true =
      sym (ap (texts.is_in_group group) (node_text_of cells place cell there (wire_parts (is_input cell.item) (is_register cell.item) wire).0 ∙ text_shape cell.name cell.group place)
      ∙ shape_in_group (shape_for cell.name cell.group place) group (small_shape cells netlist small place cell there) low) ∙ counts in
      by cell.name refl shaped
    where
      by : (name : Option Name) → cell.name ≡ name → is_shape_in group (shape_for cell.name cell.group place) ≡ true → cell.group ≡ group
      by None e shaped =
          eqb-true cell.group group (sym (nameless_in group cell.group place some) ∙ sym (ap (λ (o : Option Name). is_shape_in group (shape_for o cell.group place)) e) ∙ shaped)
      by (Some name) e shaped =
          let named = subst (λ (o : Option Name). IsNamed o cell.item) e (netlist.well_formed.each place cell there).named in
          kind_group name.kind name.group name.number cell.group place (wire_named name cell.item (netlist.bound.each place cell there) wire named) (own.own place cell name there e)
          (sym (ap (λ (o : Option Name). is_shape_in group (shape_for o cell.group place)) e) ∙ shaped)

  -- ---- statements

  one_assignment : (a b : Assignment) → Some a ≡ Some b → a ≡ b
  one_assignment a b e = cc

  -- the ports show names
  abbrev port_of : ℕ → ℕ → Assignment
  port_of target place = record { target = target; value = NameTree (N place) }

  shown : (target place : ℕ) (a : Assignment) → Some (port_of target place) ≡ Some a → is_linear D a.value ≡ true
  shown target place a there = ap (λ (x : Assignment). is_linear D x.value) (sym (one_assignment (port_of target place) a there))

  module _ (linear : HasLinearItems cells group) where
    assigned : (k : ℕ) (a : Assignment) → slice_get D.assigns k ≡ Some a → in_group D group a.target ≡ true → is_linear D a.value ≡ true
    assigned zero a there counts = shown 5 (valid_place cells) a there
    assigned (suc zero) a there counts = shown 6 (output_place cells) a there
    assigned (suc (suc k)) a there counts =
        let w = assign_from N cells 0 k a there in
        let is : a ≡ assignment_of N w.cell w.place = w.is_it ∙ ap (assignment_of N w.cell) (let e : 0 + w.place ≡ w.place = omega arith in e) in
        let of_group = wire_group w.place w.cell w.there w.wire (sym (ap (λ (x : Assignment). in_group D group x.target) is) ∙ counts) in
        ap (λ (x : Assignment). is_linear D x.value) is ∙ tree_linear cells w.cell.width w.cell.item (linear.each w.place w.cell w.there of_group)

    given : (k : ℕ) (s : Action) → slice_get D.blocks k ≡ Some s → IsGivenLinear D (in_group D group) s
    given k s there =
        let w = block_from N cells 0 k s there in
        subst (IsGivenLinear D (in_group D group)) (sym w.is_it) ((λ c. refl), (λ c. next_linear cells w.cell.width w.cell.item w.register))

    pub linear_shapes : HasLinearShapes D group
    linear_shapes = record { assigned = assigned; given = given }
