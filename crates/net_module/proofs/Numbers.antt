-- The names of the nodes of a net are numbered apart, and the places of its input and outputs.
use Rattle.std.proofs.Common.{◌≡◌, ℕ, zero, suc, ◌+◌, ◌<◌, ◌≤◌, Bool, true, false, not, cond, List, [], ◌∷◌, Some, slice_get, refl, sym, ◌∙◌, ap, arith, subst, ◌⊎◌, inl, inr}
use Rattle.std.specs.List.{position_or_len}
use Rattle.std.proofs.lemmas.Bool.{cases_lt}
use Rattle.std.proofs.lemmas.Option.{slice_get_within}
use Rattle.net_graph.specs.declared.cell.Cell.{Cell}
use Rattle.net_graph.specs.Name.{is_input}
use Rattle.net_module.specs.Written.{own_number, number_after, number_in, number_of, in_data_name, first_node_name}

pub one_cell : (c d : Cell) → Some c ≡ Some d → c ≡ d
one_cell c d e = cc

after_least : (b : Bool) (first : ℕ) → first ≤ number_after b first
after_least true first = omega arith
after_least false first = omega arith

-- the names of nodes are numbered from the first number on
pub number_least : (cells : List Cell) (first place : ℕ) (cell : Cell) → slice_get cells place ≡ Some cell → is_input cell.item ≡ false → first ≤ number_in cells first place
number_least [] first place cell at node = absurd (omega (arith, slice_get_within {A = Cell} [] place cell at))
number_least (x ∷ cells) first zero cell at node =
    let same : is_input x.item ≡ false = ap (λ (c : Cell). is_input c.item) (one_cell x cell at) ∙ node in
    subst (λ (b : Bool). first ≤ own_number b first) (sym same) (omega arith)
number_least (x ∷ cells) first (suc place) cell at node =
    omega (arith, number_least cells (number_after (is_input x.item) first) place cell at node, after_least (is_input x.item) first)

pub number_below : (cells : List Cell) (first j k : ℕ) (c d : Cell) → j < k → slice_get cells j ≡ Some c → slice_get cells k ≡ Some d → is_input c.item ≡ false → is_input d.item ≡ false
    → number_in cells first j < number_in cells first k
number_below [] first j k c d lt at found node none = absurd (omega (arith, slice_get_within {A = Cell} [] j c at))
number_below (x ∷ cells) first zero zero c d lt at found node none = absurd (omega arith)
number_below (x ∷ cells) first zero (suc k) c d lt at found node none =
    let same : is_input x.item ≡ false = ap (λ (e : Cell). is_input e.item) (one_cell x c at) ∙ node in
    let rest = number_least cells (number_after (is_input x.item) first) k d found none in
    let own : own_number (is_input x.item) first ≡ first = ap (λ (b : Bool). own_number b first) same in
    let after : number_after (is_input x.item) first ≡ first + 1 = ap (λ (b : Bool). number_after b first) same in
    omega (arith, rest, own, after)
number_below (x ∷ cells) first (suc j) zero c d lt at found node none = absurd (omega arith)
number_below (x ∷ cells) first (suc j) (suc k) c d lt at found node none =
    number_below cells (number_after (is_input x.item) first) j k c d (omega arith) at found node none

-- two nodes whose names have one number are one
pub number_apart : (cells : List Cell) (j k : ℕ) (c d : Cell) → slice_get cells j ≡ Some c → slice_get cells k ≡ Some d → is_input c.item ≡ false → is_input d.item ≡ false
    → number_of cells j ≡ number_of cells k → j ≡ k
number_apart cells j k c d at found node none same = by (cases_lt j k) (cases_lt k j)
  where
    by : (j < k) ⊎ (k ≤ j) → (k < j) ⊎ (j ≤ k) → j ≡ k
    by (inl lt) more = absurd (omega (arith, number_below cells first_node_name j k c d lt at found node none, same))
    by (inr le) (inl lt) = absurd (omega (arith, number_below cells first_node_name k j d c lt found at none node, same))
    by (inr le) (inr other) = omega arith

-- the input is written as the port
pub number_input : (cells : List Cell) (first place : ℕ) (cell : Cell) → slice_get cells place ≡ Some cell → is_input cell.item ≡ true → number_in cells first place ≡ in_data_name
number_input [] first place cell at is = absurd (omega (arith, slice_get_within {A = Cell} [] place cell at))
number_input (x ∷ cells) first zero cell at is =
    let same : is_input x.item ≡ true = ap (λ (c : Cell). is_input c.item) (one_cell x cell at) ∙ is in
    ap (λ (b : Bool). own_number b first) same
number_input (x ∷ cells) first (suc place) cell at is = number_input cells (number_after (is_input x.item) first) place cell at is

-- ---- the first node with a property

pub record IsThere (cells : List Cell) (is : Cell → Bool) (place : ℕ) : Type 0 where
  pub cell : Cell
  pub there : slice_get cells place ≡ Some cell
  pub is_it : is cell ≡ true

pub first_there : (is : Cell → Bool) (cells : List Cell) (place : ℕ) (cell : Cell) → slice_get cells place ≡ Some cell → is cell ≡ true → IsThere cells is (position_or_len is cells)
first_there is [] place cell at holds = absurd (omega (arith, slice_get_within {A = Cell} [] place cell at))
first_there is (x ∷ cells) place cell at holds = by (is x) refl place at (λ k found. first_there is cells k cell found holds)
  where
    later : (n : ℕ) → IsThere cells is n → IsThere (x ∷ cells) is (1 + n)
    later n rest =
        let after : suc n ≡ 1 + n = omega arith in
        subst (λ (k : ℕ). IsThere (x ∷ cells) is k) after (record { cell = rest.cell; there = rest.there; is_it = rest.is_it })

    false_true : false ≡ true → ⊥
    false_true h = cc

    by : (b : Bool) → is x ≡ b → (place : ℕ) → slice_get (x ∷ cells) place ≡ Some cell → ((k : ℕ) → slice_get cells k ≡ Some cell → IsThere cells is (position_or_len is cells))
        → IsThere (x ∷ cells) is (cond (not b) (1 + position_or_len is cells) 0)
    by true e place at rest = record { cell = x; there = refl; is_it = e }
    by false e zero at rest = absurd (false_true (sym e ∙ ap is (one_cell x cell at) ∙ holds))
    by false e (suc place) at rest = later (position_or_len is cells) (rest place at)
