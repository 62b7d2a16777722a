-- Which numbers the names of a group and kind have, while a net grows.
use Rattle.std.proofs.Common.{◌≡◌, ℕ, ◌+◌, ◌<◌, List, [], ◌∷◌, ◌++◌, length, refl, sym, ◌∙◌, ap, subst, arith, Option, Some, None, slice_get, set, inl, inr}
use Rattle.std.specs.Prelude.{IfSome}
use Rattle.std.proofs.lemmas.Bool.{cases_lt, cases_eq}
use Rattle.std.proofs.lemmas.Option.{slice_get_within}
use Rattle.net_graph.proofs.Lists.{slice_get-append_left, slice_get_push, slice_get_push_cases, slice_get-set_same, slice_get-set_other}
use Rattle.net_graph.proofs.CellLemmas.{same_cell}
use Rattle.net_graph.specs.declared.cell.Cell.{Cell}
use Rattle.net_graph.specs.declared.counting.Counted.{Counted}
use Rattle.net_graph.specs.declared.name.Name.{Name}
use Rattle.net_graph.specs.declared.name.NameKind.{NameKind}
use Rattle.net_graph.specs.WellFormed.{IsFree, IsLeastFree}
use Rattle.net_graph.specs.Numbers.{AreCounted, IsCountedBy}

-- a name that isn't the new node's is as free as before
IsFree-push : (cells : List Cell) (own : Cell) (name : Name) → (own.name ≡ Some name → ⊥) → IsFree cells name → IsFree (cells ++ own ∷ []) name
IsFree-push cells own name other f = record {
  none = λ place cell there is. elim (slice_get_push_cases cells own place cell there) [
    | inl before ↦ f.none place cell before is
    | inr last ↦ other (ap (λ (c : Cell). c.name) (sym last.1) ∙ is)
  ];
}

IsFree-pop : (cells : List Cell) (own : Cell) (name : Name) → IsFree (cells ++ own ∷ []) name → IsFree cells name
IsFree-pop cells own name f = record { none = λ place cell there is. f.none place cell (slice_get-append_left cells (own ∷ []) place cell there) is }

-- a node of another name changes nothing
pub AreCounted-push : (cells : List Cell) (own : Cell) (group : ℕ) (kind : NameKind) (count : ℕ) → own.name ≡ None → AreCounted cells group kind count → AreCounted (cells ++ own ∷ []) group kind count
AreCounted-push cells own group kind count nameless a = record {
  used = λ number less f. a.used number less (IsFree-pop cells own _ f);
  free = λ number more. IsFree-push cells own _ (λ is. absurd (cc (nameless, is))) (a.free number more);
}

-- the next number is taken
pub AreCounted-next : (cells : List Cell) (own : Cell) (group : ℕ) (kind : NameKind) (count : ℕ) → own.name ≡ Some (record { group = group; kind = kind; number = count }) → AreCounted cells group kind count → AreCounted (cells ++ own ∷ []) group kind (count + 1)
AreCounted-next cells own group kind count is a = record {
  used = λ number less f. elim (cases_lt number count) [
    | inl below ↦ a.used number below (IsFree-pop cells own _ f)
    | inr here ↦
        let same : count ≡ number = omega arith in
        f.none (length cells) own (slice_get_push cells own (length cells) refl) (is ∙ ap (λ (n : ℕ). Some (record { group = group; kind = kind; number = n })) same)
  ];
  free = λ number more. IsFree-push cells own _ (λ other. numbers_apart group kind count number (sym is ∙ other) (omega arith)) (a.free number (omega arith));
}
  where
    named : ℕ → NameKind → ℕ → Option Name
    named g k m = Some (record { group = g; kind = k; number = m })

    numbers_apart : (g : ℕ) (k : NameKind) (m n : ℕ) → named g k m ≡ named g k n → m < n → ⊥
    numbers_apart g k m n e less = let same : m ≡ n = ap number_in e in omega arith
      where
        number_in : Option Name → ℕ
        number_in None = 0
        number_in (Some name) = name.number

-- a node that is written anew with its name changes nothing
IsFree-set : (cells : List Cell) (at : ℕ) (was now : Cell) (name : Name) → slice_get cells at ≡ Some was → now.name ≡ was.name → IsFree cells name → IsFree (set cells at now) name
IsFree-set cells at was now name here same f = record {
  none = λ place cell there is. elim (cases_eq place at) [
    | inl e ↦
        let there' : slice_get (set cells at now) at ≡ Some cell = subst (λ (n : ℕ). slice_get (set cells at now) n ≡ Some cell) e there in
        let one : now ≡ cell = same_cell now cell (slice_get (set cells at now) at) (slice_get-set_same cells at now (slice_get_within cells at was here)) there' in
        f.none at was here (sym same ∙ ap (λ (c : Cell). c.name) one ∙ is)
    | inr other ↦ f.none place cell (sym (slice_get-set_other cells at place now other) ∙ there) is
  ];
}

IsFree-unset : (cells : List Cell) (at : ℕ) (was now : Cell) (name : Name) → slice_get cells at ≡ Some was → now.name ≡ was.name → IsFree (set cells at now) name → IsFree cells name
IsFree-unset cells at was now name here same f = record {
  none = λ place cell there is. elim (cases_eq place at) [
    | inl e ↦
        let one : was ≡ cell = same_cell was cell (slice_get cells at) here (subst (λ (n : ℕ). slice_get cells n ≡ Some cell) e there) in
        f.none at now (slice_get-set_same cells at now (slice_get_within cells at was here)) (same ∙ ap (λ (c : Cell). c.name) one ∙ is)
    | inr other ↦ f.none place cell (slice_get-set_other cells at place now other ∙ there) is
  ];
}

pub IsCountedBy-set : (cells : List Cell) (at : ℕ) (was now : Cell) (counted : Option Counted) → slice_get cells at ≡ Some was → now.name ≡ was.name → IsCountedBy cells counted → IsCountedBy (set cells at now) counted
IsCountedBy-set cells at was now None here same a = tt
IsCountedBy-set cells at was now (Some counted) here same a = record {
  used = λ number less f. a.used number less (IsFree-unset cells at was now _ here same f);
  free = λ number more. IsFree-set cells at was now _ here same (a.free number more);
}

pub IsCountedBy-push : (cells : List Cell) (own : Cell) (counted : Option Counted) → own.name ≡ None → IsCountedBy cells counted → IsCountedBy (cells ++ own ∷ []) counted
IsCountedBy-push cells own None nameless a = tt
IsCountedBy-push cells own (Some counted) nameless a = AreCounted-push cells own counted.group counted.kind counted.count nameless a

-- the number of names that have the numbers below it is the least that is free
pub IsLeastFree-counted : (cells : List Cell) (group : ℕ) (kind : NameKind) (count : ℕ) → AreCounted cells group kind count → IsLeastFree cells group kind count
IsLeastFree-counted cells group kind count a = record { free = a.free count (omega arith); least = a.used }

-- what is known once the next number is taken
pub IsCountedBy-next : (cells : List Cell) (own : Cell) (name : Name) (counted : Option Counted) → own.name ≡ Some name → AreCounted cells name.group name.kind name.number
    → IfSome counted (λ c. c ≡ record { group = name.group; kind = name.kind; count = name.number + 1 }) → IsCountedBy (cells ++ own ∷ []) counted
IsCountedBy-next cells own name None is a e = tt
IsCountedBy-next cells own name (Some counted) is a e =
    subst (λ (c : Counted). AreCounted (cells ++ own ∷ []) c.group c.kind c.count) (sym e) (AreCounted-next cells own name.group name.kind name.number is a)
