-- A register of a written module that is named as one of a group is that of a register of the net with a name of this group.
use Rattle.std.proofs.Common.{◌≡◌, ℕ, ◌<◌, ◌^◌, true, false, List, Option, None, Some, slice_get, refl, sym, ◌∙◌, ap}
use Rattle.std.proofs.lemmas.Bool.{eqb-true}
use Rattle.net_graph.specs.declared.cell.Cell.{Cell}
use Rattle.net_graph.specs.declared.cell.Item.{Item}
use Rattle.net_graph.specs.declared.cell.Item.TheVariants.{Register}
use Rattle.net_graph.specs.declared.cell.Node.{Node}
use Rattle.net_graph.specs.declared.name.Name.{Name}
use Rattle.net_graph.specs.declared.name.NameKind.{NameKind}
use Rattle.net_graph.specs.declared.name.NameKind.TheVariants.{Control, Window, Copy, PreAdder, Register as Other, Table, Output, Valid}
use Rattle.net_graph.specs.Name.{written_name, IsRegisterKind, IsRegisterName}
use Rattle.net_graph.specs.WellFormed.{IsNetlist, IsNamed}
use Rattle.verilog_tree.specs.declared.tree.Kind.TheVariants.{Reg}
use Rattle.verilog_tree.specs.Names.{kind_of, text_of, is_in_group}
use Rattle.verilog_tree.specs.Tree.{Design}
use Rattle.verilog_text.specs.Order.{IsSameButPlaces}
use Rattle.module_costs.proofs.Prefixes.{is_shape_in, shape_in_group}
use Rattle.module_costs.proofs.Written.{past_ports, register_from}
use Rattle.net_module.specs.Written.{written_module, node_signals, node_text}
use Rattle.net_module.proofs.Cycles.{register_is, register_data}
use Rattle.net_module.proofs.NodeTexts.{node_text_of}
use Rattle.net_text.specs.Small.{AreSmall}
use Rattle.net_text.proofs.Names.{kind_shape, shape_for, text_shape, small_shape}
use Rattle.filter_text.proofs.NodeNames.{register_text}
use Rattle.filter_text.proofs.UncutPlaces.{same_kind, same_text}

-- a register of the net with a name of this group and this text
pub record IsRegisterOf (cells : List Cell) (group : ℕ) (text : List ℕ) : Type 0 where
  pub place : ℕ
  pub cell : Cell
  pub name : Name
  pub next : Node
  pub there : slice_get cells place ≡ Some cell
  pub named : cell.name ≡ Some name
  pub is_it : cell.item ≡ Some (Register next)
  pub no_control : name.kind ≡ Control → ⊥
  pub of_group : name.group ≡ group
  pub written : written_name name ≡ text

false_true : false ≡ true → ⊥
false_true h = cc

-- ---- by the name's kind

of_kind : (kind : NameKind) (named number own place group : ℕ) → IsRegisterKind kind named number → is_shape_in group (kind_shape kind named number own place) ≡ true → (kind ≡ Control → ⊥) × (named ≡ group)
of_kind Control named number own place group is h = absurd (false_true h)
of_kind Window named number own place group is h = ((λ e. cc), eqb-true named group h)
of_kind Copy named number own place group is h = ((λ e. cc), eqb-true named group h)
of_kind PreAdder named number own place group is h = ((λ e. cc), eqb-true named group h)
of_kind Other named number own place group is h = ((λ e. cc), eqb-true named group h)
of_kind Table named number own place group is h = absurd is
of_kind Output named number own place group is h = absurd (false_true h)
of_kind Valid named number own place group is h = absurd is

-- a register has a name
pub named_register : (o : Option Name) (item : Option Item) (next : Node) → item ≡ Some (Register next) → IsNamed o item → (name : Name) × (o ≡ Some name) × IsRegisterName name
named_register None item next is named = absurd (rw is at named)
named_register (Some name) item next is named = (name, refl, rw is at named)

-- ---- by the number of its name

pub register_of_group : (cells : List Cell) → IsNetlist cells → AreSmall cells → (d : Design) → IsSameButPlaces d (written_module cells) → (n group : ℕ) → group < 2 ^ 64 → kind_of d n ≡ Some Reg → is_in_group group (text_of d n) ≡ true
    → IsRegisterOf cells group (text_of d n)
register_of_group cells netlist small d same n group low kind inside =
    let found = register_from cells 7 n (past_ports _ _ n (node_signals cells 7) (sym (same_kind d (written_module cells) same n) ∙ kind)) in
    let is = register_is found.cell.item found.register in
    let text : text_of d n ≡ node_text found.cell found.place =
    same_text d (written_module cells) same n ∙ ap (text_of (written_module cells)) found.number ∙ node_text_of cells found.place found.cell found.there (register_data found.cell.item found.register) in
    let own = named_register found.cell.name found.cell.item is.0 is.1 (netlist.well_formed.each found.place found.cell found.there).named in
    let shaped : is_shape_in group (shape_for (Some own.0) found.cell.group found.place) ≡ true =
    ap (λ (o : Option Name). is_shape_in group (shape_for o found.cell.group found.place)) (sym own.1)
    ∙ sym (shape_in_group (shape_for found.cell.name found.cell.group found.place) group (small_shape cells netlist small found.place found.cell found.there) low)
    ∙ ap (is_in_group group) (sym (text_shape found.cell.name found.cell.group found.place) ∙ sym text) ∙ inside in
    let its = of_kind own.0.kind own.0.group own.0.number found.cell.group found.place group own.2 shaped in
    record {
      place = found.place;
      cell = found.cell;
      name = own.0;
      next = is.0;
      there = found.there;
      named = own.1;
      is_it = is.1;
      no_control = its.0;
      of_group = its.1;
      written = sym (register_text cells netlist found.place found.cell own.0 found.there found.register own.1) ∙ sym text;
    }
