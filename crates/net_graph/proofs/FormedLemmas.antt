-- Lists of nodes stay nets while they grow.
use Rattle.std.proofs.Common.{◌≡◌, ℕ, ◌+◌, ◌<◌, ◌≤◌, List, [], ◌∷◌, ◌++◌, length, refl, sym, ◌∙◌, ap, arith, Option, Some, None, slice_get, set, inl, inr, subst, length-append}
use Rattle.std.proofs.lemmas.Option.{slice_get_within}
use Rattle.std.proofs.lemmas.Bool.{cases_eq}
use Rattle.std.proofs.Math.ListN.{length-set}
use Rattle.net_graph.proofs.Lists.{slice_get_push_cases, slice_get-set_same, slice_get-set_other}
use Rattle.net_graph.proofs.CellLemmas.{same_cell, cell_at-there}
use Rattle.net_graph.specs.declared.cell.Cell.{Cell}
use Rattle.net_graph.specs.declared.cell.Node.{Node}
use Rattle.net_graph.specs.declared.cell.Item.{Item}
use Rattle.net_graph.specs.declared.cell.Item.TheVariants.{Bits, Register}
use Rattle.net_graph.specs.declared.name.Name.{Name}
use Rattle.net_graph.specs.Cells.{cell_at}
use Rattle.net_graph.specs.WellFormed.{OperandsBelow, SelectsWithin, IsNamed, ReadsBelow, IsFree, IsFreeName, IsNode, IsWellFormed}
use Rattle.net_graph.specs.Name.{IsWireName}
use Rattle.net_graph.specs.Grow.{bound_to, named_as}

OperandsBelow-more : (place m n width : ℕ) (item : Option Item) → m ≤ n → OperandsBelow place m width item → OperandsBelow place n width item
OperandsBelow-more place m n width None h o = o
OperandsBelow-more place m n width (Some (Register next)) h o = omega arith
OperandsBelow-more place m n width (Some item) h o = o

-- the cells that the list had are as wide in the new one
record SameWidths (cells more : List Cell) : Type 0 where
  each : (place : ℕ) (cell : Cell) → place < length cells → slice_get more place ≡ Some cell → (was : Cell) × (slice_get cells place ≡ Some was) × (was.width ≡ cell.width)

SelectsWithin-more : (cells more : List Cell) (place count width : ℕ) (item : Option Item) → place ≤ length cells → SameWidths cells more → OperandsBelow place count width item → SelectsWithin cells item → SelectsWithin more item
SelectsWithin-more cells more place count width None h s o w = w
SelectsWithin-more cells more place count width (Some (Bits a high low)) h s o w = record {
  inside = λ cell there.
      let below : a.place < place = o.0 in
      let was = s.each a.place cell (omega arith) there in
      let less : high < was.0.width = w.inside was.0 was.1 in
      let same : was.0.width ≡ cell.width = was.2 in
      omega arith;
}
SelectsWithin-more cells more place count width (Some item) h s o w = w

ReadsBelow-more : (cells more : List Cell) (place m n : ℕ) (cell : Cell) → place ≤ length cells → SameWidths cells more → m ≤ n → ReadsBelow cells place m cell → ReadsBelow more place n cell
ReadsBelow-more cells more place m n cell inside s h r = record {
  wide = r.wide;
  operands = OperandsBelow-more place m n cell.width cell.item h r.operands;
  selects = SelectsWithin-more cells more place m cell.width cell.item inside s r.operands r.selects;
  named = r.named;
}

SameWidths-push : (cells : List Cell) (own : Cell) → SameWidths cells (cells ++ own ∷ [])
SameWidths-push cells own = record {
  each = λ place cell inside there. elim (slice_get_push_cases cells own place cell there) [
    | inl before ↦ (cell, before, refl)
    | inr last ↦ absurd (let e = last.0 in omega arith)
  ];
}

SameWidths-set : (cells : List Cell) (at : ℕ) (was now : Cell) → slice_get cells at ≡ Some was → now.width ≡ was.width → SameWidths cells (set cells at now)
SameWidths-set cells at was now here same = record {
  each = λ place cell inside there. elim (cases_eq place at) [
    | inl e ↦
        let new = slice_get-set_same cells at now (slice_get_within cells at was here) in
        let there' : slice_get (set cells at now) at ≡ Some cell = subst (λ (n : ℕ). slice_get (set cells at now) n ≡ Some cell) e there in
        let is : now ≡ cell = same_cell now cell (slice_get (set cells at now) at) new there' in
        (was, subst (λ (n : ℕ). slice_get cells n ≡ Some was) (sym e) here, sym same ∙ ap (λ (c : Cell). c.width) is)
    | inr other ↦ (cell, sym (slice_get-set_other cells at place now other) ∙ there, refl)
  ];
}

-- a free name is none that the list has
free_apart : (cells : List Cell) (own cell : Cell) (place : ℕ) (name : Name) → IsFreeName cells own.name → slice_get cells place ≡ Some cell → cell.name ≡ Some name → own.name ≡ Some name → ⊥
free_apart cells own cell place name free there is own_is =
    let f : IsFreeName cells (Some name) = subst (λ (n : Option Name). IsFreeName cells n) own_is free in f.none place cell there is

pub IsWellFormed-push : (cells : List Cell) (own : Cell) → IsWellFormed cells → IsNode cells (length cells) (length cells + 1) own → IsWellFormed (cells ++ own ∷ [])
IsWellFormed-push cells own w n =
    let count : length (cells ++ own ∷ []) ≡ length cells + 1 = length-append cells (own ∷ []) in
    record {
      each = λ k d e.
          subst (λ (m : ℕ). ReadsBelow (cells ++ own ∷ []) k m d) (sym count)
          (elim (slice_get_push_cases cells own k d e) [
            | inl old ↦ let inside = slice_get_within cells k d old in ReadsBelow-more cells (cells ++ own ∷ []) k (length cells) (length cells + 1) d (omega arith) (SameWidths-push cells own) (omega arith) (w.each k d old)
            | inr last ↦ rw (last.0, last.1) (ReadsBelow-more cells (cells ++ own ∷ []) (length cells) (length cells + 1) (length cells + 1) own (omega arith) (SameWidths-push cells own) (omega arith) n.reads)
          ]);
      apart = λ j k cell other name p q m o. elim (slice_get_push_cases cells own j cell p) [
        | inl before ↦ elim (slice_get_push_cases cells own k other q) [
          | inl before' ↦ w.apart j k cell other name before before' m o
          | inr last' ↦ absurd (free_apart cells own cell j name n.free before m (sym (ap (λ (c : Cell). c.name) last'.1) ∙ o))
        ]
        | inr last ↦ elim (slice_get_push_cases cells own k other q) [
          | inl before' ↦ absurd (free_apart cells own other k name n.free before' o (sym (ap (λ (c : Cell). c.name) last.1) ∙ m))
          | inr last' ↦ last.0 ∙ sym last'.0
        ]
      ];
    }

-- one cell is written: it is as wide, and reads and is named lawfully
IsWellFormed-set : (cells : List Cell) (at : ℕ) (was now : Cell) → IsWellFormed cells → slice_get cells at ≡ Some was → now.width ≡ was.width → ReadsBelow cells at (length cells) now
    → ((k : ℕ) (other : Cell) (name : Name) → slice_get cells k ≡ Some other → now.name ≡ Some name → other.name ≡ Some name → at ≡ k) → IsWellFormed (set cells at now)
IsWellFormed-set cells at was now w here same reads alone =
    let inside = slice_get_within cells at was here in
    let new = slice_get-set_same cells at now inside in
    let count : length (set cells at now) ≡ length cells = length-set cells at now in
    record {
      each = λ k d e.
          subst (λ (m : ℕ). ReadsBelow (set cells at now) k m d) (sym count)
          (elim (cases_eq k at) [
            | inl same_place ↦
                let e' : slice_get (set cells at now) at ≡ Some d = subst (λ (n : ℕ). slice_get (set cells at now) n ≡ Some d) same_place e in
                let is : now ≡ d = same_cell now d (slice_get (set cells at now) at) new e' in
                let r = ReadsBelow-more cells (set cells at now) at (length cells) (length cells) now (omega arith) (SameWidths-set cells at was now here same) (omega arith) reads in
                subst (λ (n : ℕ). ReadsBelow (set cells at now) n (length cells) d) (sym same_place) (subst (λ (c : Cell). ReadsBelow (set cells at now) at (length cells) c) is r)
            | inr other ↦
                let e' : slice_get cells k ≡ Some d = sym (slice_get-set_other cells at k now other) ∙ e in
                let within = slice_get_within cells k d e' in
                ReadsBelow-more cells (set cells at now) k (length cells) (length cells) d (omega arith) (SameWidths-set cells at was now here same) (omega arith) (w.each k d e')
          ]);
      apart = λ j k cell other name p q m o. elim (cases_eq j at) [
        | inl j_at ↦ elim (cases_eq k at) [
          | inl k_at ↦ j_at ∙ sym k_at
          | inr k_else ↦
              let p' : slice_get (set cells at now) at ≡ Some cell = subst (λ (n : ℕ). slice_get (set cells at now) n ≡ Some cell) j_at p in
              let is : now ≡ cell = same_cell now cell (slice_get (set cells at now) at) new p' in
              j_at ∙ alone k other name (sym (slice_get-set_other cells at k now k_else) ∙ q) (ap (λ (c : Cell). c.name) is ∙ m) o
        ]
        | inr j_else ↦ elim (cases_eq k at) [
          | inl k_at ↦
              let q' : slice_get (set cells at now) at ≡ Some other = subst (λ (n : ℕ). slice_get (set cells at now) n ≡ Some other) k_at q in
              let is : now ≡ other = same_cell now other (slice_get (set cells at now) at) new q' in
              sym (alone j cell name (sym (slice_get-set_other cells at j now j_else) ∙ p) (ap (λ (c : Cell). c.name) is ∙ o) m) ∙ sym k_at
          | inr k_else ↦ w.apart j k cell other name (sym (slice_get-set_other cells at j now j_else) ∙ p) (sym (slice_get-set_other cells at k now k_else) ∙ q) m o
        ]
      ];
    }

-- a register without a next has a register's name, with it too
named_bound : (name : Option Name) (next : Node) → IsNamed name None → IsNamed name (Some (Register next))
named_bound None next h = h
named_bound (Some name) next h = h

pub IsWellFormed-bind : (cells : List Cell) (at : ℕ) (next : Node) → IsWellFormed cells → at < length cells → (cell_at cells at).item ≡ None → next.place < length cells → IsWellFormed (set cells at (bound_to (cell_at cells at) next))
IsWellFormed-bind cells at next w inside nextless has =
    let was = cell_at cells at in
    let here = cell_at-there cells at inside in
    let r = w.each at was here in
    let named : IsNamed was.name None = subst (λ (i : Option Item). IsNamed was.name i) nextless r.named in
    IsWellFormed-set cells at was (bound_to was next) w here refl
    (record { wide = r.wide; operands = has; selects = tt; named = named_bound was.name next named })
    (λ k other name there mine its. w.apart at k was other name here there mine its)

-- a node without a name is no register, and may get a wire's name
named_wire : (item : Option Item) (name : Name) → IsNamed None item → IsWireName name → IsNamed (Some name) item
named_wire None name h wire = absurd h
named_wire (Some (Register next)) name h wire = absurd h
named_wire (Some item) name h wire = wire

pub IsWellFormed-named : (cells : List Cell) (at : ℕ) (name : Name) → IsWellFormed cells → at < length cells → (cell_at cells at).name ≡ None → IsWireName name → IsFree cells name → IsWellFormed (set cells at (named_as (cell_at cells at) name))
IsWellFormed-named cells at name w inside nameless wire free =
    let was = cell_at cells at in
    let here = cell_at-there cells at inside in
    let r = w.each at was here in
    let plain : IsNamed None was.item = subst (λ (n : Option Name). IsNamed n was.item) nameless r.named in
    IsWellFormed-set cells at was (named_as was name) w here refl
    (record { wide = r.wide; operands = r.operands; selects = r.selects; named = named_wire was.item name plain wire })
    (λ k other found there mine its. absurd (free.none k other there (its ∙ sym mine)))
