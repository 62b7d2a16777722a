-- What costs no adder, no window register and no table.
use Rattle.std.proofs.Common.{◌≡◌, ℕ, ◌+◌, ◌≤◌, List, refl, ◌∙◌, ap, arith, Some, None, Bool, true, false, ◌&&◌, eqb}
use Rattle.std.proofs.lemmas.Bool.{eqb-true}
use Rattle.net_graph.specs.declared.cell.Cell.{Cell}
use Rattle.net_graph.specs.declared.cell.Node.{Node}
use Rattle.net_graph.specs.declared.cell.Item.{Item}
use Rattle.net_graph.specs.declared.name.Name.{Name}
use Rattle.net_graph.specs.declared.name.NameKind.{NameKind}
use Rattle.net_graph.specs.Cells.{NetView, cell_at}
use Rattle.net_graph.specs.Count.{total, one_if, is_adder, is_window, is_table, has_kind, adder, window, table, adders_in, windows_in, tables_in}
use Rattle.net_graph.specs.Grow.{Adds, AddsRegister, IsUnbound, IsBoundTo, bound_to}
use Rattle.net_graph.proofs.CellLemmas.{cell_at-there}
use Rattle.net_graph.proofs.CountLemmas.{total_push, total_set, adders_plain, adders_register, adders_bind}
use Rattle.pipeline_balance.specs.Costs.{SameAdders, SameNamed}

pub SameAdders-refl : (cells : List Cell) → SameAdders cells cells
SameAdders-refl cells = record { each = λ group some. refl }

pub SameAdders-trans : {a b c : List Cell} → SameAdders a b → SameAdders b c → SameAdders a c
SameAdders-trans p q = record { each = λ group some. q.each group some ∙ p.each group some }

pub SameNamed-refl : (cells : List Cell) → SameNamed cells cells
SameNamed-refl cells = record { windows = λ group. refl; tables = λ group. refl }

pub SameNamed-trans : {a b c : List Cell} → SameNamed a b → SameNamed b c → SameNamed a c
SameNamed-trans p q = record { windows = λ group. q.windows group ∙ p.windows group; tables = λ group. q.tables group ∙ p.tables group }

-- ---- one more node

pub nothing_more : (n m : ℕ) → m ≡ 0 → n + m ≡ n
nothing_more n m e = omega arith

pub SameNamed-adds : {old new : NetView} {node : Node} {width : ℕ} {item : Item} → Adds old new node width item → SameNamed old.cells new.cells
SameNamed-adds {old} {new} {node} {width} {item} a =
    let own : Cell = record { group = old.group; name = None; width = width; item = Some item } in
    record {
      windows = λ group. ap (total (window group)) a.cells ∙ total_push (window group) old.cells own ∙ nothing_more (windows_in group old.cells) 0 refl;
      tables = λ group. ap (total (table group)) a.cells ∙ total_push (table group) old.cells own ∙ nothing_more (tables_in group old.cells) 0 refl;
    }

pub SameAdders-plain : {old new : NetView} {node : Node} {width : ℕ} {item : Item} → Adds old new node width item → is_adder (Some item) ≡ false → SameAdders old.cells new.cells
SameAdders-plain a plain = record { each = λ group some. adders_plain group a plain }

-- another group's
other_group : (group : ℕ) (b : Bool) → 1 ≤ group → one_if (eqb 0 group && b) ≡ 0
other_group group b some = by_test (eqb 0 group) refl
  where
    by_test : (e : Bool) → eqb 0 group ≡ e → one_if (e && b) ≡ 0
    by_test true is = absurd (let same = eqb-true 0 group is in omega arith)
    by_test false is = refl

-- a sum of control is none of a stage
pub SameAdders-control : {old new : NetView} {node : Node} {width : ℕ} {item : Item} → old.group ≡ 0 → Adds old new node width item → SameAdders old.cells new.cells
SameAdders-control {old} {new} {node} {width} {item} control a =
    let own : Cell = record { group = old.group; name = None; width = width; item = Some item } in
    record {
      each = λ group some.
          let nothing : adder group own ≡ 0 = ap (λ (g : ℕ). one_if (eqb g group && is_adder (Some item))) control ∙ other_group group (is_adder (Some item)) some in
          ap (total (adder group)) a.cells ∙ total_push (adder group) old.cells own ∙ nothing_more (adders_in group old.cells) (adder group own) nothing;
    }

-- ---- one more register

pub SameAdders-register : {old new : NetView} {node : Node} {name : Name} {width : ℕ} → AddsRegister old new node name width → SameAdders old.cells new.cells
SameAdders-register a = record { each = λ group some. adders_register group a }

pub windows-register : {old new : NetView} {node : Node} {name : Name} {width : ℕ} (group : ℕ) → AddsRegister old new node name width → windows_in group new.cells ≡ windows_in group old.cells + one_if (has_kind is_window group (Some name))
windows-register {old} {new} {node} {name} {width} group a =
    let own : Cell = record { group = old.group; name = Some name; width = width; item = None } in
    ap (total (window group)) a.cells ∙ total_push (window group) old.cells own

pub tables-register : {old new : NetView} {node : Node} {name : Name} {width : ℕ} (group : ℕ) → AddsRegister old new node name width → tables_in group new.cells ≡ tables_in group old.cells + one_if (has_kind is_table group (Some name))
tables-register {old} {new} {node} {name} {width} group a =
    let own : Cell = record { group = old.group; name = Some name; width = width; item = None } in
    ap (total (table group)) a.cells ∙ total_push (table group) old.cells own

and_false : (b : Bool) → one_if (b && false) ≡ 0
and_false true = refl
and_false false = refl

-- a name of another kind
pub other_kind : (is : NameKind → Bool) (group : ℕ) (name : Name) → is name.kind ≡ false → one_if (has_kind is group (Some name)) ≡ 0
other_kind is group name e = ap (λ (k : Bool). one_if (eqb name.group group && k)) e ∙ and_false (eqb name.group group)

pub SameNamed-register : {old new : NetView} {node : Node} {name : Name} {width : ℕ} → is_window name.kind ≡ false → is_table name.kind ≡ false → AddsRegister old new node name width → SameNamed old.cells new.cells
SameNamed-register {old} {new} {node} {name} {width} no_window no_table a = record {
  windows = λ group. windows-register group a ∙ nothing_more (windows_in group old.cells) (one_if (has_kind is_window group (Some name))) (other_kind is_window group name no_window);
  tables = λ group. tables-register group a ∙ nothing_more (tables_in group old.cells) (one_if (has_kind is_table group (Some name))) (other_kind is_table group name no_table);
}

-- ---- a register's next

pub SameAdders-bind : {old new : NetView} {register next : Node} → IsUnbound old.cells register → IsBoundTo old new register next → SameAdders old.cells new.cells
SameAdders-bind u b = record { each = λ group some. adders_bind group u b }

pub SameNamed-bind : {old new : NetView} {register next : Node} → IsUnbound old.cells register → IsBoundTo old new register next → SameNamed old.cells new.cells
SameNamed-bind {old} {new} {register} {next} u b =
    let was = cell_at old.cells register.place in
    let now = bound_to was next in
    let here = cell_at-there old.cells register.place u.inside in
    record {
      windows = λ group. ap (total (window group)) b.cells ∙ total_set (window group) old.cells register.place was now here refl;
      tables = λ group. ap (total (table group)) b.cells ∙ total_set (table group) old.cells register.place was now here refl;
    }
