-- The least free number of a group and kind is at most the number of nodes: each used number takes a node.
use Rattle.std.proofs.Common.{◌≡◌, ℕ, zero, suc, ◌+◌, ◌<◌, ◌≤◌, List, [], ◌∷◌, length, refl, ◌∙◌, ap, arith, Option, Some, None, slice_get, inl, inr}
use Rattle.std.proofs.lemmas.Bool.{cases_lt}
use Rattle.net_graph.specs.declared.cell.Cell.{Cell}
use Rattle.net_graph.specs.declared.name.Name.{Name}
use Rattle.net_graph.specs.declared.name.NameKind.{NameKind}
use Rattle.net_graph.specs.WellFormed.{IsFree}
use Rattle.net_graph.specs.Names.{from_number, numbered_from}

from_number-most : (k : ℕ) (name : Option Name) → from_number k name ≤ 1
from_number-most k None = omega arith
from_number-most k (Some name) = grind arith

pub numbered_from-most : (k : ℕ) (cells : List Cell) → numbered_from k cells ≤ length cells
numbered_from-most k [] = omega arith
numbered_from-most k (cell ∷ cells) = let one = from_number-most k cell.name in let more = numbered_from-most k cells in omega arith

from_number-less : (k : ℕ) (name : Option Name) → from_number (suc k) name ≤ from_number k name
from_number-less k None = omega arith
from_number-less k (Some name) = grind arith

numbered_from-less : (k : ℕ) (cells : List Cell) → numbered_from (suc k) cells ≤ numbered_from k cells
numbered_from-less k [] = omega arith
numbered_from-less k (cell ∷ cells) = let one = from_number-less k cell.name in let more = numbered_from-less k cells in omega arith

from_number-own : (name : Name) (n : ℕ) → n ≤ name.number → from_number n (Some name) ≡ 1
from_number-own name n h = grind arith

from_number-past : (name : Name) (n : ℕ) → name.number < n → from_number n (Some name) ≡ 0
from_number-past name n h = grind arith

-- a cell whose number is k drops out behind k
numbered_from-drop : (k : ℕ) (cells : List Cell) (place : ℕ) (cell : Cell) (name : Name) → slice_get cells place ≡ Some cell → cell.name ≡ Some name → name.number ≡ k → numbered_from (suc k) cells + 1 ≤ numbered_from k cells
numbered_from-drop k [] place cell name there is e = absurd (cc)
numbered_from-drop k (c ∷ cells) zero cell name there is e =
    let same : c ≡ cell = cc in
    let own : c.name ≡ Some name = ap (λ (d : Cell). d.name) same ∙ is in
    let now : from_number k c.name ≡ 1 = ap (from_number k) own ∙ from_number-own name k (omega arith) in
    let past : from_number (suc k) c.name ≡ 0 = ap (from_number (suc k)) own ∙ from_number-past name (suc k) (omega arith) in
    let more = numbered_from-less k cells in
    omega arith
numbered_from-drop k (c ∷ cells) (suc place) cell name there is e =
    let one = from_number-less k c.name in let more = numbered_from-drop k cells place cell name there is e in omega arith

-- a number that is used leaves room for one fewer
pub IsUsed-room : (cells : List Cell) (group : ℕ) (kind : NameKind) (k : ℕ) → k + numbered_from k cells ≤ length cells → (IsFree cells (record { group = group; kind = kind; number = k }) → ⊥) → suc k + numbered_from (suc k) cells ≤ length cells
IsUsed-room cells group kind k room used = elim (cases_lt (length cells) (suc k + numbered_from (suc k) cells)) [
  | inl full ↦ absurd (used (record { none = λ place cell there is. let less = numbered_from-drop k cells place cell _ there is refl in omega arith }))
  | inr fits ↦ fits
]

-- past the number of nodes nothing is used
pub IsFree-past : (cells : List Cell) (group : ℕ) (kind : NameKind) (k : ℕ) → numbered_from k cells ≡ 0 → IsFree cells (record { group = group; kind = kind; number = k })
IsFree-past cells group kind k none = record {
  none = λ place cell there is. let less = numbered_from-drop k cells place cell _ there is refl in absurd (omega arith);
}
