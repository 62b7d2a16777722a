-- Which names are free while a net grows.
use Rattle.std.proofs.Common.{◌≡◌, ℕ, suc, ◌<◌, List, [], ◌∷◌, ◌++◌, length, refl, sym, ◌∙◌, ap, arith, Option, Some, slice_get, set, inl, inr, subst, IsSome}
use Rattle.std.proofs.lemmas.Bool.{cases_lt, cases_eq}
use Rattle.net_graph.proofs.Lists.{slice_get_push_cases, slice_get-set_other}
use Rattle.net_graph.proofs.CellLemmas.{same_cell, cell_at-there, cell_at-is}
use Rattle.net_graph.proofs.NetLemmas.{cell_of_register, cell_of_bound}
use Rattle.net_graph.specs.declared.cell.Cell.{Cell}
use Rattle.net_graph.specs.declared.cell.Node.{Node}
use Rattle.net_graph.specs.declared.cell.Item.{Item}
use Rattle.net_graph.specs.declared.name.Name.{Name}
use Rattle.net_graph.specs.declared.name.NameKind.{NameKind}
use Rattle.net_graph.specs.Cells.{NetView, cell_at}
use Rattle.net_graph.specs.WellFormed.{IsFree, IsLeastFree}
use Rattle.net_graph.specs.Grow.{Extends, Adds, AddsRegister, IsUnbound, IsBoundTo, bound_to}
use Rattle.pipeline_balance.specs.Numbered.{IsRegister, IsCounted, LeavesFree, name_of}

-- ---- cells of a longer net

-- a cell is as wide in a longer net
pub width-later : (old new : List Cell) (place : ℕ) → Extends old new → place < length old → (cell_at new place).width ≡ (cell_at old place).width
width-later old new place e inside =
    let kept = e.keeps place (cell_at old place) (cell_at-there old place inside) in
    ap (λ (c : Cell). c.width) (cell_at-is new place kept.cell kept.there) ∙ kept.width

pub IsRegister-later : {old new : List Cell} {place group : ℕ} {name : Name} {width : ℕ} → Extends old new → IsRegister old place group name width → IsRegister new place group name width
IsRegister-later {old} {new} {place} {group} {name} {width} e r =
    let kept = e.keeps place r.cell r.there in
    record {
      cell = kept.cell;
      there = kept.there;
      of_group = kept.group ∙ r.of_group;
      named = kept.name (subst (λ (n : Option Name). IsSome n) (sym r.named) refl) ∙ r.named;
      wide = kept.width ∙ r.wide;
      registered = (r.registered.0, kept.item (subst (λ (i : Option Item). IsSome i) (sym r.registered.1) refl) ∙ r.registered.1);
    }

-- ---- free names

-- what is free in a longer net was free
pub free_earlier : (old new : List Cell) (name : Name) → Extends old new → IsFree new name → IsFree old name
free_earlier old new name e f = record {
  none = λ place cell there is.
      let kept = e.keeps place cell there in
      f.none place kept.cell kept.there (kept.name (subst (λ (n : Option Name). IsSome n) (sym is) refl) ∙ is);
}

free_pushed : (old new : List Cell) (own : Cell) (name : Name) → new ≡ old ++ own ∷ [] → (own.name ≡ Some name → ⊥) → IsFree old name → IsFree new name
free_pushed old new own name cells other f = record {
  none = λ place cell there is.
      let there' : slice_get (old ++ own ∷ []) place ≡ Some cell = subst (λ (m : List Cell). slice_get m place ≡ Some cell) cells there in
      elim (slice_get_push_cases old own place cell there') [
        | inl was ↦ f.none place cell was is
        | inr last ↦ other (ap (λ (c : Cell). c.name) (sym last.1) ∙ is)
      ];
}

pub free_adds : {old new : NetView} {node : Node} {width : ℕ} {item : Item} → Adds old new node width item → (name : Name) → IsFree old.cells name → IsFree new.cells name
free_adds {old} {new} a name f = free_pushed old.cells new.cells _ name a.cells (λ e. absurd (cc)) f

pub free_register : {old new : NetView} {node : Node} {own : Name} {width : ℕ} → AddsRegister old new node own width → (name : Name) → (name ≡ own → ⊥) → IsFree old.cells name → IsFree new.cells name
free_register {old} {new} {node} {own} a name other f = free_pushed old.cells new.cells _ name a.cells (λ e. let same : name ≡ own = cc in other same) f

pub free_bind : {old new : NetView} {register next : Node} → IsUnbound old.cells register → IsBoundTo old new register next → (name : Name) → IsFree old.cells name → IsFree new.cells name
free_bind {old} {new} {register} {next} u b name f =
    let was = cell_at old.cells register.place in
    let now = bound_to was next in
    let here = cell_at-there old.cells register.place u.inside in
    record {
      none = λ place cell there is. elim (cases_eq place register.place) [
        | inl same ↦
            let there' : slice_get new.cells register.place ≡ Some cell = subst (λ (n : ℕ). slice_get new.cells n ≡ Some cell) same there in
            let found : now ≡ cell = same_cell now cell (slice_get new.cells register.place) (cell_of_bound u b) there' in
            f.none register.place was here (ap (λ (c : Cell). c.name) found ∙ is)
        | inr other ↦
            let there' : slice_get (set old.cells register.place now) place ≡ Some cell = subst (λ (m : List Cell). slice_get m place ≡ Some cell) b.cells there in
            f.none place cell (sym (slice_get-set_other old.cells register.place place now other) ∙ there') is
      ];
    }

-- a register's name is taken
pub used_register : {old new : NetView} {node : Node} {own : Name} {width : ℕ} → AddsRegister old new node own width → IsFree new.cells own → ⊥
used_register {old} {new} {node} a f = f.none node.place _ (cell_of_register a) refl

pub LeavesFree-refl : (cells : List Cell) (touched : Name → Type 0) → LeavesFree cells cells touched
LeavesFree-refl cells touched = record { free = λ name other f. f }

pub LeavesFree-trans : (a b c : List Cell) (p q r : Name → Type 0) → ((name : Name) → p name → r name) → ((name : Name) → q name → r name) → LeavesFree a b p → LeavesFree b c q → LeavesFree a c r
LeavesFree-trans a b c p q r first last f g = record { free = λ name other free. g.free name (λ h. other (last name h)) (f.free name (λ h. other (first name h)) free) }

-- ---- counted names

-- names of another kind leave the count
pub IsCounted-leaves : {old new : List Cell} {touched : Name → Type 0} (group : ℕ) (kind : NameKind) (count : ℕ) → Extends old new → LeavesFree old new touched → ((number : ℕ) → touched (name_of group kind number) → ⊥) → IsCounted old group kind count → IsCounted new group kind count
IsCounted-leaves {old} {new} {touched} group kind count e f other c = record {
  used = λ number less free. c.used number less (free_earlier old new (name_of group kind number) e free);
  free = λ number more. f.free (name_of group kind number) (other number) (c.free number more);
}

-- the least free number is the count
pub least_is : (cells : List Cell) (group : ℕ) (kind : NameKind) (count number : ℕ) → IsCounted cells group kind count → IsLeastFree cells group kind number → number ≡ count
least_is cells group kind count number c l = elim (cases_lt number count) [
  | inl less ↦ absurd (c.used number less l.free)
  | inr le ↦ elim (cases_lt count number) [
    | inl less ↦ absurd (l.least count less (c.free count (omega arith)))
    | inr ge ↦ omega arith
  ]
]

-- one name more
pub IsCounted-more : {old new : List Cell} (group : ℕ) (kind : NameKind) (count : ℕ) → Extends old new → LeavesFree old new (λ name. name ≡ name_of group kind count) → (IsFree new (name_of group kind count) → ⊥) → IsCounted old group kind count → IsCounted new group kind (suc count)
IsCounted-more {old} {new} group kind count e f taken c = record {
  used = λ number less free. elim (cases_eq number count) [
    | inl same ↦ taken (subst (λ (n : ℕ). IsFree new (name_of group kind n)) same free)
    | inr other ↦ c.used number (omega arith) (free_earlier old new (name_of group kind number) e free)
  ];
  free = λ number more. f.free (name_of group kind number) (λ same. let n : number ≡ count = ap (λ (x : Name). x.number) same in omega arith) (c.free number (omega arith));
}
