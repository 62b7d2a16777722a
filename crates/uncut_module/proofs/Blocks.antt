-- What the always blocks of a written module give a register in the uncut run.
use Rattle.std.proofs.Common.{◌≡◌, ℕ, zero, suc, ◌+◌, Bool, true, false, not, List, [], ◌∷◌, Option, None, Some, slice_get, ℤ, refl, sym, ◌∙◌, ap, arith}
use Rattle.std.proofs.lemmas.Option.{slice_get_within}
use Rattle.net_graph.specs.declared.cell.Cell.{Cell}
use Rattle.verilog_tree.specs.Tree.{Action}
use Rattle.verilog_tree.specs.Meaning.{Shapes}
use Rattle.verilog_tree.specs.Circuit.{later}
use Rattle.verilog_tree.specs.Uncut.{Numbers, whole_given, whole_given_by}
use Rattle.net_module.specs.Written.{unless, is_register, tree_for, block_for, node_blocks}
use Rattle.net_module.proofs.Numbers.{one_cell}

module _ (shapes : Shapes) (numbers : Numbers) (number : ℕ → ℕ) (r : ℕ) where
  -- what the block of a node gives the register r
  abbrev pub block_gives : Cell → ℕ → Option ℤ
  block_gives cell place = whole_given shapes numbers (block_for (number place) cell.width (tree_for number cell.width cell.item)) r

  abbrev pub all_give : List Cell → ℕ → Option ℤ
  all_give cells p = whole_given_by shapes numbers (node_blocks number cells p) r

  none_later : (o : Option ℤ) → later None o ≡ o
  none_later None = refl
  none_later (Some x) = refl

  left_out : (b : Bool) (s : Action) (rest : List Action) → (b ≡ true → whole_given shapes numbers s r ≡ None)
      → whole_given_by shapes numbers (unless (not b) s rest) r ≡ whole_given_by shapes numbers rest r
  left_out false s rest quiet = refl
  left_out true s rest quiet = ap (λ (o : Option ℤ). later o (whole_given_by shapes numbers rest r)) (quiet refl) ∙ none_later (whole_given_by shapes numbers rest r)

  -- no block gives it a number
  given_none : (cells : List Cell) (p : ℕ) → ((place : ℕ) (cell : Cell) → slice_get cells place ≡ Some cell → is_register cell.item ≡ true → block_gives cell (p + place) ≡ None) → all_give cells p ≡ None
  given_none [] p quiet = refl
  given_none (x ∷ cells) p quiet =
      let here : p + 0 ≡ p = omega arith in
      left_out (is_register x.item) _ (node_blocks number cells (p + 1)) (λ is. ap (block_gives x) (sym here) ∙ quiet 0 x refl is)
      ∙ given_none cells (p + 1) (λ place cell at is. (let there : p + 1 + place ≡ p + suc place = omega arith in ap (block_gives cell) there) ∙ quiet (suc place) cell at is)

  taken : (b : Bool) (s : Action) (rest : List Action) → b ≡ true → whole_given_by shapes numbers rest r ≡ None
      → whole_given_by shapes numbers (unless (not b) s rest) r ≡ whole_given shapes numbers s r
  taken true s rest is none = ap (later (whole_given shapes numbers s r)) none
  taken false s rest is none = absurd (grind arith)

  -- only one block gives it a number
  pub given_one : (cells : List Cell) (p place : ℕ) (cell : Cell) → slice_get cells place ≡ Some cell → is_register cell.item ≡ true
      → ((j : ℕ) (c : Cell) → slice_get cells j ≡ Some c → is_register c.item ≡ true → (j ≡ place → ⊥) → block_gives c (p + j) ≡ None) → all_give cells p ≡ block_gives cell (p + place)
  given_one [] p place cell at is quiet = absurd (omega (arith, slice_get_within {A = Cell} [] place cell at))
  given_one (x ∷ cells) p zero cell at is quiet =
      let same = one_cell x cell at in
      let here : p ≡ p + 0 = omega arith in
      taken (is_register x.item) _ (node_blocks number cells (p + 1)) (ap (λ (c : Cell). is_register c.item) same ∙ is)
      (given_none cells (p + 1) (λ j c found reg. (let there : p + 1 + j ≡ p + suc j = omega arith in ap (block_gives c) there) ∙ quiet (suc j) c found reg (λ e. omega arith)))
      ∙ ap (λ (c : Cell). block_gives c p) same ∙ ap (block_gives cell) here
  given_one (x ∷ cells) p (suc place) cell at is quiet =
      let here : p + 0 ≡ p = omega arith in
      let there : p + 1 + place ≡ p + suc place = omega arith in
      left_out (is_register x.item) _ (node_blocks number cells (p + 1)) (λ reg. ap (block_gives x) (sym here) ∙ quiet 0 x refl reg (λ e. omega arith))
      ∙ given_one cells (p + 1) place cell at is
      (λ j c found reg apart. (let over : p + 1 + j ≡ p + suc j = omega arith in ap (block_gives c) over) ∙ quiet (suc j) c found reg (λ e. apart (omega arith)))
      ∙ ap (block_gives cell) there
