-- Nets that grow by nodes of one group and of control.
use Rattle.std.proofs.Common.{◌≡◌, ℕ, ◌≤◌, List, [], ◌∷◌, ◌++◌, length, refl, sym, ◌∙◌, ap, arith, Option, Some, None, slice_get, set, ◌⊎◌, inl, inr, subst, IsSome, true, false, not, ◌&&◌, ◌<◌}
use Rattle.std.proofs.lemmas.Option.{slice_get_within}
use Rattle.std.proofs.lemmas.Bool.{cases_lt, cases_eq}
use Rattle.net_graph.proofs.Lists.{slice_get-append_left, slice_get_push_cases, slice_get-set_other, slice_get-set_same}
use Rattle.net_graph.proofs.GroupLemmas.{nameless_control}
use Rattle.net_graph.proofs.CellLemmas.{same_cell, cell_at-there, cell_at-is}
use Rattle.net_graph.proofs.NetLemmas.{Extends-refl, Extends-trans, Extends-adds, Extends-register, Extends-bind, cell_of_register, cell_of_bound, Extends-named}
use Rattle.net_graph.specs.declared.cell.Cell.{Cell}
use Rattle.net_graph.specs.declared.cell.Node.{Node}
use Rattle.net_graph.specs.declared.cell.Item.{Item}
use Rattle.net_graph.specs.declared.cell.Item.TheVariants.{Input, Constant, Add, Sub, Shl, Shr, Mux, Equal, Bits, Register}
use Rattle.net_graph.specs.declared.name.Name.{Name}
use Rattle.net_graph.specs.Cells.{NetView, cell_at}
use Rattle.net_graph.specs.Name.{is_control, is_control_name, is_input}
use Rattle.net_graph.specs.WellFormed.{IsBound}
use Rattle.net_graph.specs.Control.{IsOfControl, ReadsControl, IsControlClosed}
use Rattle.net_graph.specs.declared.name.NameKind.TheVariants.{Control}
use Rattle.net_graph.specs.Grow.{Extends, IsKept, Adds, AddsRegister, IsUnbound, IsBoundTo, IsNamedAs, IsAdded, IsNamedIn, HasOwnName, HaveOwnNames, KeepsCells, Lengthens, Grows, bound_to, named_as}

-- ---- control nodes read control nodes in a longer net too

pub IsOfControl-later : (old new : List Cell) (place : ℕ) → Extends old new → IsOfControl old place → IsOfControl new place
IsOfControl-later old new place e is = let kept = e.keeps place is.cell is.there in record { cell = kept.cell; there = kept.there; control = kept.control ∙ is.control }

pub ReadsControl-later : (old new : List Cell) (item : Option Item) → Extends old new → ReadsControl old item → ReadsControl new item
ReadsControl-later old new None e r = r
ReadsControl-later old new (Some Input) e r = r
ReadsControl-later old new (Some (Constant v)) e r = r
ReadsControl-later old new (Some (Add a b)) e r = (IsOfControl-later old new a.place e r.0, IsOfControl-later old new b.place e r.1)
ReadsControl-later old new (Some (Sub a b)) e r = (IsOfControl-later old new a.place e r.0, IsOfControl-later old new b.place e r.1)
ReadsControl-later old new (Some (Shl a by)) e r = IsOfControl-later old new a.place e r
ReadsControl-later old new (Some (Shr a by)) e r = IsOfControl-later old new a.place e r
ReadsControl-later old new (Some (Mux on a b)) e r = (IsOfControl-later old new on.place e r.0, IsOfControl-later old new a.place e r.1, IsOfControl-later old new b.place e r.2)
ReadsControl-later old new (Some (Equal a b)) e r = (IsOfControl-later old new a.place e r.0, IsOfControl-later old new b.place e r.1)
ReadsControl-later old new (Some (Bits a high low)) e r = IsOfControl-later old new a.place e r
ReadsControl-later old new (Some (Register next)) e r = IsOfControl-later old new next.place e r

-- ---- cells that stay, and names

pub KeepsCells-refl : (cells : List Cell) → KeepsCells cells cells
KeepsCells-refl cells = record { each = λ place cell there. there }

pub KeepsCells-trans : (a b c : List Cell) → KeepsCells a b → KeepsCells b c → KeepsCells a c
KeepsCells-trans a b c p q = record { each = λ place cell there. q.each place cell (p.each place cell there) }

pushed_kept : (old new more : List Cell) → new ≡ old ++ more → KeepsCells old new
pushed_kept old new more is = record { each = λ place cell there. subst (λ (m : List Cell). slice_get m place ≡ Some cell) (sym is) (slice_get-append_left old more place cell there) }

-- a node without a name
nameless_own : (cell : Cell) → cell.name ≡ None → HasOwnName cell
nameless_own cell nameless = record { named = λ name is. absurd (cc) }

-- a name of this group, which is not that of control
pub named_own : (cell : Cell) (name : Name) → cell.name ≡ Some name → name.group ≡ cell.group → 1 ≤ cell.group → HasOwnName cell
named_own cell name has own some = record {
  named = λ other is.
      let same : name ≡ other = cc in
      record { own = ap (λ (n : Name). n.group) (sym same) ∙ own; control = λ none. absurd (omega arith) };
}

-- a name of control in group 0
pub named_control : (cell : Cell) (name : Name) → cell.name ≡ Some name → name.group ≡ cell.group → name.kind ≡ Control → HasOwnName cell
named_control cell name has own control = record {
  named = λ other is.
      let same : name ≡ other = cc in
      record { own = ap (λ (n : Name). n.group) (sym same) ∙ own; control = λ none. ap (λ (n : Name). n.kind) (sym same) ∙ control };
}

own_bound : (own : Cell) (next : Node) → HasOwnName own → HasOwnName (bound_to own next)
own_bound own next h = record { named = λ name is. h.named name is }

-- the names of two steps
named_both : (a b c : List Cell) → KeepsCells b c → HaveOwnNames (length a) b → HaveOwnNames (length b) c → HaveOwnNames (length a) c
named_both a b c kept p q = record {
  each = λ place cell after there. elim (cases_lt place (length b)) [
    | inl less ↦
        let was = cell_at b place in
        let here = cell_at-there b place less in
        let same : was ≡ cell = same_cell was cell (slice_get c place) (kept.each place was here) there in
        subst (λ (x : Cell). HasOwnName x) same (p.each place was after here)
    | inr more ↦ q.each place cell more there
  ];
}

-- one more node with a name of its own
pushed_named : (old new : List Cell) (own : Cell) → new ≡ old ++ own ∷ [] → HasOwnName own → HaveOwnNames (length old) new
pushed_named old new own cells is = record {
  each = λ place cell after there. elim (slice_get_push_cases old own place cell (subst (λ (m : List Cell). slice_get m place ≡ Some cell) cells there)) [
    | inl before ↦ absurd (let within = slice_get_within old place cell before in omega arith)
    | inr last ↦ subst (λ (x : Cell). HasOwnName x) (sym last.1) is
  ];
}

-- ---- growth

pub Grows-refl : (net : NetView) → Grows net net
Grows-refl net = record {
  extends = Extends-refl net.cells;
  group = refl;
  bound = λ b. b;
  closed = λ c. c;
  added = λ place cell after there. absurd (let within = slice_get_within net.cells place cell there in omega arith);
  kept = λ before. KeepsCells-refl net.cells;
  named = λ before. record { each = λ place cell after there. absurd (let within = slice_get_within net.cells place cell there in omega arith) };
}

-- what a stage adds lengthens the net
pub lengthened : {old new : NetView} → Grows old new → Lengthens old new
lengthened g = record { extends = g.extends; group = g.group; bound = g.bound; closed = g.closed; added = g.added }

-- what was added stays so in a longer net
added_later : (group : ℕ) (new : List Cell) (place : ℕ) (was cell : Cell) → IsKept new place was → slice_get new place ≡ Some cell → IsAdded group was → IsAdded group cell
added_later group new place was cell kept there a =
    let is : kept.cell ≡ cell = same_cell kept.cell cell (slice_get new place) kept.there there in
    let same_group : was.group ≡ cell.group = sym kept.group ∙ ap (λ (c : Cell). c.group) is in
    let same_input : is_input was.item ≡ is_input cell.item = sym kept.input ∙ ap (λ (c : Cell). is_input c.item) is in
    record {
      of_group = subst (λ (g : ℕ). (g ≡ 0) ⊎ (g ≡ group)) same_group a.of_group;
      no_input = sym same_input ∙ a.no_input;
    }

-- the nodes of two steps
added_both : (a b c : NetView) → Extends b.cells c.cells → b.group ≡ a.group → ((place : ℕ) (cell : Cell) → length a.cells ≤ place → slice_get b.cells place ≡ Some cell → IsAdded a.group cell)
    → ((place : ℕ) (cell : Cell) → length b.cells ≤ place → slice_get c.cells place ≡ Some cell → IsAdded b.group cell) → (place : ℕ) (cell : Cell) → length a.cells ≤ place → slice_get c.cells place ≡ Some cell → IsAdded a.group cell
added_both a b c e same p q place cell after there = elim (cases_lt place (length b.cells)) [
  | inl less ↦
      let was = cell_at b.cells place in
      let here = cell_at-there b.cells place less in
      added_later a.group c.cells place was cell (e.keeps place was here) there (p place was after here)
  | inr more ↦ subst (λ (g : ℕ). IsAdded g cell) same (q place cell more there)
]

pub Lengthens-trans : {a b c : NetView} → Lengthens a b → Lengthens b c → Lengthens a c
Lengthens-trans {a} {b} {c} p q = record {
  extends = Extends-trans a.cells b.cells c.cells p.extends q.extends;
  group = q.group ∙ p.group;
  bound = λ before. q.bound (p.bound before);
  closed = λ before. q.closed (p.closed before);
  added = added_both a b c q.extends p.group p.added q.added;
}

pub Grows-trans : {a b c : NetView} → Grows a b → Grows b c → Grows a c
Grows-trans {a} {b} {c} p q = record {
  extends = Extends-trans a.cells b.cells c.cells p.extends q.extends;
  group = q.group ∙ p.group;
  bound = λ before. q.bound (p.bound before);
  closed = λ before. q.closed (p.closed before);
  added = added_both a b c q.extends p.group p.added q.added;
  kept = λ before. KeepsCells-trans a.cells b.cells c.cells (p.kept before) (q.kept (p.bound before));
  named = λ before. named_both a.cells b.cells c.cells (q.kept (p.bound before)) (p.named before) (q.named (p.bound before));
}

-- nodes of control that were added to the net as one of group 0 are added to a net of any group
added_anyhow : (group : ℕ) (cell : Cell) → IsAdded 0 cell → IsAdded group cell
added_anyhow group cell a = record { of_group = elim a.of_group [ inl e ↦ inl e | inr e ↦ inl e ]; no_input = a.no_input }

pub Grows-regroup : {old new : NetView} → (let alone : NetView = record { cells = old.cells; group = 0 } in Grows alone new) → (let back : NetView = record { cells = new.cells; group = old.group } in Grows old back)
Grows-regroup {old} {new} g = record {
  extends = g.extends;
  group = refl;
  bound = g.bound;
  closed = g.closed;
  added = λ place cell after there. added_anyhow old.group cell (g.added place cell after there);
  kept = g.kept;
  named = g.named;
}

-- ---- one more node

pushed_added : (old : NetView) (new : List Cell) (own : Cell) → new ≡ old.cells ++ own ∷ [] → IsAdded old.group own → (place : ℕ) (cell : Cell) → length old.cells ≤ place → slice_get new place ≡ Some cell → IsAdded old.group cell
pushed_added old new own cells is place cell after there =
    let e : slice_get (old.cells ++ own ∷ []) place ≡ Some cell = subst (λ (m : List Cell). slice_get m place ≡ Some cell) cells there in
    elim (slice_get_push_cases old.cells own place cell e) [
      | inl before ↦ absurd (let within = slice_get_within old.cells place cell before in omega arith)
      | inr last ↦ subst (λ (c : Cell). IsAdded old.group c) (sym last.1) is
    ]

pushed_closed : (old new : List Cell) (own : Cell) → new ≡ old ++ own ∷ [] → Extends old new → (is_control own ≡ true → ReadsControl old own.item) → IsControlClosed old → IsControlClosed new
pushed_closed old new own cells e reads before = record {
  each = λ place cell there control.
      let there' : slice_get (old ++ own ∷ []) place ≡ Some cell = subst (λ (m : List Cell). slice_get m place ≡ Some cell) cells there in
      elim (slice_get_push_cases old own place cell there') [
        | inl was ↦ ReadsControl-later old new cell.item e (before.each place cell was control)
        | inr last ↦
            let same : own ≡ cell = sym last.1 in
            let is : is_control own ≡ true = ap is_control same ∙ control in
            subst (λ (c : Cell). ReadsControl new c.item) same (ReadsControl-later old new own.item e (reads is))
      ];
}

pushed_bound : (old new : List Cell) (own : Cell) → new ≡ old ++ own ∷ [] → IsSome own.item → IsBound old → IsBound new
pushed_bound old new own cells some before = record {
  each = λ place cell there.
      let there' : slice_get (old ++ own ∷ []) place ≡ Some cell = subst (λ (m : List Cell). slice_get m place ≡ Some cell) cells there in
      elim (slice_get_push_cases old own place cell there') [
        | inl was ↦ before.each place cell was
        | inr last ↦ subst (λ (c : Cell). IsSome c.item) (sym last.1) some
      ];
}

-- one more node that is no input, and that reads control where it is control
pub Grows-adds : {old new : NetView} {node : Node} {width : ℕ} {item : Item} → Adds old new node width item → is_input (Some item) ≡ false → (old.group ≡ 0 → ReadsControl old.cells (Some item)) → Grows old new
Grows-adds {old} {new} {node} {width} {item} a plain reads =
    let own : Cell = record { group = old.group; name = None; width = width; item = Some item } in
    let e = Extends-adds a in
    record {
      extends = e;
      group = a.group;
      bound = pushed_bound old.cells new.cells own a.cells refl;
      closed = pushed_closed old.cells new.cells own a.cells e (λ is. reads (nameless_control old.group (not (is_input (Some item))) is));
      added = pushed_added old new.cells own a.cells (record { of_group = inr refl; no_input = plain });
      kept = λ before. pushed_kept old.cells new.cells (own ∷ []) a.cells;
      named = λ before. pushed_named old.cells new.cells own a.cells (nameless_own own refl);
    }

-- one more node of a group of data
pub Grows-data : {old new : NetView} {node : Node} {width : ℕ} {item : Item} → 1 ≤ old.group → Adds old new node width item → is_input (Some item) ≡ false → Grows old new
Grows-data {old} data_group a plain = Grows-adds a plain (λ zero_group. absurd (omega arith))

-- ---- one more register

-- every register but the one at this place has its next
pub record IsBoundBut (cells : List Cell) (place : ℕ) : Type 0 where
  pub each : (k : ℕ) (cell : Cell) → (k ≡ place → ⊥) → slice_get cells k ≡ Some cell → IsSome cell.item

-- what comes between a register and its next: the others keep their nexts
pub record GrowsBut (old new : NetView) (register : Node) (own : Cell) : Type 0 where
  pub extends : Extends old.cells new.cells
  pub group : new.group ≡ old.group
  pub bound : IsBound old.cells → IsBoundBut new.cells register.place
  pub closed : IsControlClosed old.cells → IsControlClosed new.cells
  pub added : (place : ℕ) (cell : Cell) → length old.cells ≤ place → slice_get new.cells place ≡ Some cell → IsAdded old.group cell
  pub kept : IsBound old.cells → KeepsCells old.cells new.cells
  pub named : IsBound old.cells → HasOwnName own → HaveOwnNames (length old.cells) new.cells
  pub there : slice_get new.cells register.place ≡ Some own
  pub nextless : own.item ≡ None

pub GrowsBut-register : {old new : NetView} {register : Node} {name : Name} {width : ℕ} → AddsRegister old new register name width → GrowsBut old new register (record { group = old.group; name = Some name; width = width; item = None })
GrowsBut-register {old} {new} {register} {name} {width} a =
    let own : Cell = record { group = old.group; name = Some name; width = width; item = None } in
    let e = Extends-register a in
    record {
      extends = e;
      group = a.group;
      bound = λ before. record {
        each = λ k cell other there.
            let there' : slice_get (old.cells ++ own ∷ []) k ≡ Some cell = subst (λ (m : List Cell). slice_get m k ≡ Some cell) a.cells there in
            elim (slice_get_push_cases old.cells own k cell there') [
              | inl was ↦ before.each k cell was
              | inr last ↦ absurd (other (last.0 ∙ sym a.place))
            ];
      };
      closed = pushed_closed old.cells new.cells own a.cells e (λ is. tt);
      added = pushed_added old new.cells own a.cells (record { of_group = inr refl; no_input = refl });
      kept = λ before. pushed_kept old.cells new.cells (own ∷ []) a.cells;
      named = λ before has. pushed_named old.cells new.cells own a.cells has;
      there = cell_of_register a;
      nextless = refl;
    }

pub GrowsBut-adds : {old mid new : NetView} {register node : Node} {own : Cell} {width : ℕ} {item : Item} → GrowsBut old mid register own → Adds mid new node width item → is_input (Some item) ≡ false → (mid.group ≡ 0 → ReadsControl mid.cells (Some item)) → GrowsBut old new register own
GrowsBut-adds {old} {mid} {new} {register} {node} {own} {width} {item} p a plain reads =
    let q = Grows-adds a plain reads in
    let more : Cell = record { group = mid.group; name = None; width = width; item = Some item } in
    record {
      extends = Extends-trans old.cells mid.cells new.cells p.extends q.extends;
      group = q.group ∙ p.group;
      bound = λ before. record {
        each = λ k cell other there.
            let there' : slice_get (mid.cells ++ more ∷ []) k ≡ Some cell = subst (λ (m : List Cell). slice_get m k ≡ Some cell) a.cells there in
            elim (slice_get_push_cases mid.cells more k cell there') [
              | inl was ↦ (p.bound before).each k cell other was
              | inr last ↦ subst (λ (c : Cell). IsSome c.item) (sym last.1) refl
            ];
      };
      closed = λ before. q.closed (p.closed before);
      added = added_both old mid new q.extends p.group p.added q.added;
      kept = λ before. KeepsCells-trans old.cells mid.cells new.cells (p.kept before) (pushed_kept mid.cells new.cells (more ∷ []) a.cells);
      named = λ before has. named_both old.cells mid.cells new.cells (pushed_kept mid.cells new.cells (more ∷ []) a.cells) (p.named before has) (pushed_named mid.cells new.cells more a.cells (nameless_own more refl));
      there = subst (λ (m : List Cell). slice_get m register.place ≡ Some own) (sym a.cells) (slice_get-append_left mid.cells (more ∷ []) register.place own p.there);
      nextless = p.nextless;
    }

pub GrowsBut-unbound : {old new : NetView} {register : Node} {own : Cell} → GrowsBut old new register own → IsUnbound new.cells register
GrowsBut-unbound {old} {new} {register} {own} p = record {
  inside = slice_get_within new.cells register.place own p.there;
  nextless = ap (λ (c : Cell). c.item) (cell_at-is new.cells register.place own p.there) ∙ p.nextless;
}

-- the register's cell with its next
pub cell_of_grown : {old mid new : NetView} {register next : Node} {own : Cell} → GrowsBut old mid register own → IsBoundTo mid new register next → slice_get new.cells register.place ≡ Some (bound_to own next)
cell_of_grown {old} {mid} {new} {register} {next} {own} p b =
    subst (λ (c : Cell). slice_get new.cells register.place ≡ Some (bound_to c next)) (cell_at-is mid.cells register.place own p.there) (cell_of_bound (GrowsBut-unbound p) b)

pub Extends-grown : {old mid new : NetView} {register next : Node} {own : Cell} → GrowsBut old mid register own → 1 ≤ own.width → IsBoundTo mid new register next → Extends mid.cells new.cells
Extends-grown {old} {mid} {new} {register} {next} {own} p wide b =
    Extends-bind (subst (λ (c : Cell). 1 ≤ c.width) (sym (cell_at-is mid.cells register.place own p.there)) wide) (GrowsBut-unbound p) b

-- whether a register is control doesn't turn on its next
control_bound : (own : Cell) (next : Node) → own.item ≡ None → is_control (bound_to own next) ≡ true → is_control own ≡ true
control_bound own next nextless is = ap (λ (i : Option Item). is_control_name own.name own.group && not (is_input i)) nextless ∙ is

-- the register gets its next
pub Lengthens-bind : {old mid new : NetView} {register next : Node} {own : Cell} → GrowsBut old mid register own → 1 ≤ own.width → IsBoundTo mid new register next → (is_control own ≡ true → IsOfControl mid.cells next.place) → Lengthens old new
Lengthens-bind {old} {mid} {new} {register} {next} {own} p wide b reads =
    let place = register.place in
    let now = bound_to own next in
    let is_cells : new.cells ≡ set mid.cells place now = b.cells ∙ ap (λ (c : Cell). set mid.cells place (bound_to c next)) (cell_at-is mid.cells place own p.there) in
    let e = Extends-grown p wide b in
    let here = cell_of_grown p b in
    let other_there : (k : ℕ) (cell : Cell) → (k ≡ place → ⊥) → slice_get new.cells k ≡ Some cell → slice_get mid.cells k ≡ Some cell =
    λ k cell other there. sym (slice_get-set_other mid.cells place k now other) ∙ subst (λ (m : List Cell). slice_get m k ≡ Some cell) is_cells there in
    let same_now : (k : ℕ) (cell : Cell) → k ≡ place → slice_get new.cells k ≡ Some cell → now ≡ cell =
    λ k cell same there. same_cell now cell (slice_get new.cells place) here (subst (λ (n : ℕ). slice_get new.cells n ≡ Some cell) same there) in
    record {
      extends = Extends-trans old.cells mid.cells new.cells p.extends e;
      group = b.group ∙ p.group;
      bound = λ before. record {
        each = λ k cell there. elim (cases_eq k place) [
          | inl same ↦ subst (λ (c : Cell). IsSome c.item) (same_now k cell same there) refl
          | inr other ↦ (p.bound before).each k cell other (other_there k cell other there)
        ];
      };
      closed = λ before. record {
        each = λ k cell there control. elim (cases_eq k place) [
          | inl same ↦
              let is : is_control now ≡ true = ap is_control (same_now k cell same there) ∙ control in
              let next_is : IsOfControl new.cells next.place = IsOfControl-later mid.cells new.cells next.place e (reads (control_bound own next p.nextless is)) in
              subst (λ (c : Cell). ReadsControl new.cells c.item) (same_now k cell same there) next_is
          | inr other ↦ ReadsControl-later mid.cells new.cells cell.item e ((p.closed before).each k cell (other_there k cell other there) control)
        ];
      };
      added = added_both old mid new e p.group p.added (λ k cell after there.
          elim (cases_eq k place) [
            | inl same ↦ absurd (let inside = slice_get_within mid.cells place own p.there in omega arith)
            | inr other ↦ absurd (let inside = slice_get_within mid.cells k cell (other_there k cell other there) in omega arith)
          ]);
    }

-- every node but the register is as it was before the register got its next
other_kept : {old mid new : NetView} {register next : Node} {own : Cell} → GrowsBut old mid register own → IsBoundTo mid new register next → (k : ℕ) (cell : Cell) → (k ≡ register.place → ⊥) → slice_get mid.cells k ≡ slice_get new.cells k
other_kept {old} {mid} {new} {register} {next} p b k cell other =
    sym (slice_get-set_other mid.cells register.place k (bound_to (cell_at mid.cells register.place) next) other) ∙ ap (λ (m : List Cell). slice_get m k) (sym b.cells)

-- no earlier register was without its next
later_register : {old mid : NetView} {register : Node} {own : Cell} → GrowsBut old mid register own → IsBound old.cells → (k : ℕ) (cell : Cell) → slice_get old.cells k ≡ Some cell → k ≡ register.place → ⊥
later_register {old} {mid} {register} {own} p before k cell there is =
    let found : slice_get mid.cells register.place ≡ Some cell = subst (λ (n : ℕ). slice_get mid.cells n ≡ Some cell) is ((p.kept before).each k cell there) in
    let same : own ≡ cell = same_cell own cell (slice_get mid.cells register.place) p.there found in
    let none : IsSome {T = Item} None = subst (λ (i : Option Item). IsSome i) (ap (λ (c : Cell). c.item) (sym same) ∙ p.nextless) (before.each k cell there) in
    absurd (cc)

pub Grows-bind : {old mid new : NetView} {register next : Node} {own : Cell} → HasOwnName own → GrowsBut old mid register own → 1 ≤ own.width → IsBoundTo mid new register next → (is_control own ≡ true → IsOfControl mid.cells next.place) → Grows old new
Grows-bind {old} {mid} {new} {register} {next} {own} has p wide b reads =
    let l = Lengthens-bind p wide b reads in
    record {
      extends = l.extends;
      group = l.group;
      bound = l.bound;
      closed = l.closed;
      added = l.added;
      kept = λ before. record { each = λ k cell there. sym (other_kept p b k cell (later_register p before k cell there)) ∙ (p.kept before).each k cell there };
      named = λ before. record {
        each = λ k cell after there. elim (cases_eq k register.place) [
          | inl same ↦
              let is : bound_to own next ≡ cell = same_cell (bound_to own next) cell (slice_get new.cells register.place) (cell_of_grown p b) (subst (λ (n : ℕ). slice_get new.cells n ≡ Some cell) same there) in
              subst (λ (x : Cell). HasOwnName x) is (own_bound own next has)
          | inr other ↦ (p.named before has).each k cell after (other_kept p b k cell other ∙ there)
        ];
      };
    }

-- ---- one name more

-- a node gets a name under which it stays control or not
pub Lengthens-named : {old new : NetView} {node : Node} {name : Name} → node.place < length old.cells → (cell_at old.cells node.place).name ≡ None → is_control (named_as (cell_at old.cells node.place) name) ≡ is_control (cell_at old.cells node.place) → IsNamedAs old new node name → Lengthens old new
Lengthens-named {old} {new} {node} {name} inside nameless same n =
    let place = node.place in
    let was = cell_at old.cells place in
    let now = named_as was name in
    let here = cell_at-there old.cells place inside in
    let e = Extends-named inside nameless same n in
    let there_now : slice_get new.cells place ≡ Some now = subst (λ (m : List Cell). slice_get m place ≡ Some now) (sym n.cells) (slice_get-set_same old.cells place now inside) in
    let other_there : (k : ℕ) (cell : Cell) → (k ≡ place → ⊥) → slice_get new.cells k ≡ Some cell → slice_get old.cells k ≡ Some cell =
    λ k cell other there. sym (slice_get-set_other old.cells place k now other) ∙ subst (λ (m : List Cell). slice_get m k ≡ Some cell) n.cells there in
    let same_now : (k : ℕ) (cell : Cell) → k ≡ place → slice_get new.cells k ≡ Some cell → now ≡ cell =
    λ k cell at there. same_cell now cell (slice_get new.cells place) there_now (subst (λ (m : ℕ). slice_get new.cells m ≡ Some cell) at there) in
    record {
      extends = e;
      group = n.group;
      bound = λ before. record {
        each = λ k cell there. elim (cases_eq k place) [
          | inl at ↦ subst (λ (c : Cell). IsSome c.item) (same_now k cell at there) (before.each place was here)
          | inr other ↦ before.each k cell (other_there k cell other there)
        ];
      };
      closed = λ before. record {
        each = λ k cell there control. elim (cases_eq k place) [
          | inl at ↦
              let is : is_control was ≡ true = sym same ∙ ap is_control (same_now k cell at there) ∙ control in
              subst (λ (c : Cell). ReadsControl new.cells c.item) (same_now k cell at there) (ReadsControl-later old.cells new.cells was.item e (before.each place was here is))
          | inr other ↦ ReadsControl-later old.cells new.cells cell.item e (before.each k cell (other_there k cell other there) control)
        ];
      };
      added = λ k cell after there. elim (cases_eq k place) [
        | inl at ↦ absurd (omega arith)
        | inr other ↦ absurd (let within = slice_get_within old.cells k cell (other_there k cell other there) in omega arith)
      ];
    }
