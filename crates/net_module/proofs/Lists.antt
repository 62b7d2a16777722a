-- What stands in the lists of a written module.
use Rattle.std.proofs.Common.{◌≡◌, ℕ, zero, suc, ◌+◌, ◌<◌, ◌≤◌, Bool, true, false, not, List, [], ◌∷◌, ◌++◌, map, Option, None, Some, slice_get, find, refl, sym, ◌∙◌, ap, arith, subst, ◌⊎◌, inl, inr}
use Rattle.std.specs.Prelude.{◌==◌}
use Rattle.std.proofs.lemmas.Bool.{eq-eqb, ne_eqb}
use Rattle.std.proofs.lemmas.Option.{slice_get_within}
use Rattle.net_graph.specs.declared.cell.Cell.{Cell}
use Rattle.net_graph.specs.Name.{is_input}
use Rattle.verilog_tree.specs.declared.tree.Signal.{Signal}
use Rattle.verilog_tree.specs.Tree.{Action, Assignment}
use Rattle.verilog_tree.specs.Meaning.{Shapes, Values}
use Rattle.verilog_tree.specs.Circuit.{later, given_by}
use Rattle.verilog_tree.specs.Cycle.{process_of, given}
use Rattle.net_module.specs.Written.{unless, own_number, number_after, number_in, node_signal, node_signals, ports, is_wire, is_register, tree_for, node_assigns, block_for, node_blocks}
use Rattle.net_module.proofs.Numbers.{one_cell, number_least}

-- ---- lists with a part that may be left out

kept : {A : Type 0} (b : Bool) (x : A) (xs : List A) → b ≡ false → slice_get (unless b x xs) 0 ≡ Some x
kept true x xs is = absurd (grind arith)
kept false x xs is = refl

deeper : {A : Type 0} (b : Bool) (x y : A) (xs : List A) (i : ℕ) → slice_get xs i ≡ Some y → (k : ℕ) × (slice_get (unless b x xs) k ≡ Some y)
deeper true x y xs i at = (i, at)
deeper false x y xs i at = (suc i, at)

not_true : (b : Bool) → b ≡ true → not b ≡ false
not_true true e = refl
not_true false e = absurd (grind arith)

-- ---- declarations

passed : (b : Bool) (first n : ℕ) (s : Signal) (rest : List Signal) → s.name ≡ first → first < n ⊎ (b ≡ true) → find (λ (t : Signal). t.name == n) (unless b s rest) ≡ find (λ (t : Signal). t.name == n) rest
passed true first n s rest is later = refl
passed false first n s rest is later = rw (ne_eqb s.name n (λ e. differs later e)) refl
  where
    differs : first < n ⊎ (false ≡ true) → s.name ≡ n → ⊥
    differs (inl lt) e = omega (arith, is)
    differs (inr never) e = false_true never
      where
        false_true : false ≡ true → ⊥
        false_true h = cc

-- the declaration of a node's name
pub found_signal : (cells : List Cell) (first place : ℕ) (cell : Cell) → slice_get cells place ≡ Some cell → is_input cell.item ≡ false
    → find (λ (s : Signal). s.name == number_in cells first place) (node_signals cells first) ≡ Some (node_signal cell (number_in cells first place))
found_signal [] first place cell at node = absurd (omega (arith, slice_get_within {A = Cell} [] place cell at))
found_signal (x ∷ cells) first zero cell at node =
    let same : is_input x.item ≡ false = ap (λ (c : Cell). is_input c.item) (one_cell x cell at) ∙ node in
    subst (λ (b : Bool). find (λ (s : Signal). s.name == own_number b first) (unless b (node_signal x first) (node_signals cells (number_after b first))) ≡ Some (node_signal cell (own_number b first))) (sym same)
    (rw (eq-eqb first first refl) (ap (λ (c : Cell). Some (node_signal c first)) (one_cell x cell at)))
found_signal (x ∷ cells) first (suc place) cell at node =
    let n = number_in cells (number_after (is_input x.item) first) place in
    passed (is_input x.item) first n (node_signal x first) (node_signals cells (number_after (is_input x.item) first)) refl
    (after (is_input x.item) n (number_least cells (number_after (is_input x.item) first) place cell at node))
    ∙ found_signal cells (number_after (is_input x.item) first) place cell at node
  where
    after : (b : Bool) (n : ℕ) → number_after b first ≤ n → first < n ⊎ (b ≡ true)
    after true n le = inr refl
    after false n le = inl (omega arith)

-- no port has the name of a node
pub passed_ports : (width_in width_out n : ℕ) (rest : List Signal) → 7 ≤ n → find (λ (s : Signal). s.name == n) (ports width_in width_out ++ rest) ≡ find (λ (s : Signal). s.name == n) rest
passed_ports width_in width_out n rest le =
    rw (ne_eqb 1 n (λ e. omega arith), ne_eqb 2 n (λ e. omega arith), ne_eqb 3 n (λ e. omega arith), ne_eqb 4 n (λ e. omega arith), ne_eqb 5 n (λ e. omega arith), ne_eqb 6 n (λ e. omega arith)) refl

-- ---- assignments

abbrev pub assignment_of : (ℕ → ℕ) → Cell → ℕ → Assignment
assignment_of number cell place = record { target = number place; value = tree_for number cell.width cell.item }

-- each wire has its assignment
pub assign_at : (number : ℕ → ℕ) (cells : List Cell) (p place : ℕ) (cell : Cell) → slice_get cells place ≡ Some cell → is_wire cell.item ≡ true
    → (i : ℕ) × (slice_get (node_assigns number cells p) i ≡ Some (assignment_of number cell (p + place)))
assign_at number [] p place cell at is = absurd (omega (arith, slice_get_within {A = Cell} [] place cell at))
assign_at number (x ∷ cells) p zero cell at is =
    let same = one_cell x cell at in
    let wire : is_wire x.item ≡ true = ap (λ (c : Cell). is_wire c.item) same ∙ is in
    let here : p ≡ p + 0 = omega arith in (
      0,
      kept (not (is_wire x.item)) (assignment_of number x p) (node_assigns number cells (p + 1)) (not_true (is_wire x.item) wire)
          ∙ ap (λ (c : Cell). Some (assignment_of number c p)) same ∙ ap (λ (q : ℕ). Some (assignment_of number cell q)) here,
    )
assign_at number (x ∷ cells) p (suc place) cell at is =
    let rest = assign_at number cells (p + 1) place cell at is in
    let there : p + 1 + place ≡ p + suc place = omega arith in
    deeper (not (is_wire x.item)) (assignment_of number x p) (assignment_of number cell (p + suc place)) (node_assigns number cells (p + 1)) rest.0
    (rest.1 ∙ ap (λ (q : ℕ). Some (assignment_of number cell q)) there)

-- each assignment is that of a wire
pub record IsOfWire (number : ℕ → ℕ) (cells : List Cell) (p : ℕ) (a : Assignment) : Type 0 where
  pub place : ℕ
  pub cell : Cell
  pub there : slice_get cells place ≡ Some cell
  pub wire : is_wire cell.item ≡ true
  pub is_it : a ≡ assignment_of number cell (p + place)

one_more : (number : ℕ → ℕ) (x : Cell) (cells : List Cell) (p : ℕ) (a : Assignment) → IsOfWire number cells (p + 1) a → IsOfWire number (x ∷ cells) p a
one_more number x cells p a w =
    let there : p + 1 + w.place ≡ p + suc w.place = omega arith in
    record { place = suc w.place; cell = w.cell; there = w.there; wire = w.wire; is_it = w.is_it ∙ ap (λ (q : ℕ). assignment_of number w.cell q) there }

pub assign_from : (number : ℕ → ℕ) (cells : List Cell) (p i : ℕ) (a : Assignment) → slice_get (node_assigns number cells p) i ≡ Some a → IsOfWire number cells p a
assign_from number [] p i a at = absurd (omega (arith, slice_get_within {A = Assignment} [] i a at))
assign_from number (x ∷ cells) p i a at = by (is_wire x.item) refl i at (λ k found. assign_from number cells (p + 1) k a found)
  where
    same_assignment : (b c : Assignment) → Some b ≡ Some c → b ≡ c
    same_assignment b c e = cc

    by : (b : Bool) → is_wire x.item ≡ b → (i : ℕ) → slice_get (unless (not b) (assignment_of number x p) (node_assigns number cells (p + 1))) i ≡ Some a
        → ((k : ℕ) → slice_get (node_assigns number cells (p + 1)) k ≡ Some a → IsOfWire number cells (p + 1) a) → IsOfWire number (x ∷ cells) p a
    by false e i at rest = one_more number x cells p a (rest i at)
    by true e zero at rest =
        let here : p ≡ p + 0 = omega arith in
        record { place = 0; cell = x; there = refl; wire = e; is_it = sym (same_assignment _ a at) ∙ ap (λ (q : ℕ). assignment_of number x q) here }
    by true e (suc i) at rest = one_more number x cells p a (rest i at)

-- ---- always blocks

module _ (shapes : Shapes) (values : Values) (number : ℕ → ℕ) (r : ℕ) where
  -- what the block of a node gives the register r
  abbrev pub block_gives : Cell → ℕ → Option ℕ
  block_gives cell place = given shapes values (block_for (number place) cell.width (tree_for number cell.width cell.item)) r

  abbrev pub all_give : List Cell → ℕ → Option ℕ
  all_give cells p = given_by (map (process_of shapes) (node_blocks number cells p)) values r

  later_none : (o : Option ℕ) → later o None ≡ o
  later_none o = refl

  none_later : (o : Option ℕ) → later None o ≡ o
  none_later None = refl
  none_later (Some x) = refl

  left_out : (b : Bool) (s : Action) (rest : List Action) → (b ≡ true → given shapes values s r ≡ None)
      → given_by (map (process_of shapes) (unless (not b) s rest)) values r ≡ given_by (map (process_of shapes) rest) values r
  left_out false s rest quiet = refl
  left_out true s rest quiet =
      ap (λ (o : Option ℕ). later o (given_by (map (process_of shapes) rest) values r)) (quiet refl) ∙ none_later (given_by (map (process_of shapes) rest) values r)

  -- no block gives it a value
  pub given_none : (cells : List Cell) (p : ℕ) → ((place : ℕ) (cell : Cell) → slice_get cells place ≡ Some cell → is_register cell.item ≡ true → block_gives cell (p + place) ≡ None) → all_give cells p ≡ None
  given_none [] p quiet = refl
  given_none (x ∷ cells) p quiet =
      let here : p + 0 ≡ p = omega arith in
      left_out (is_register x.item) _ (node_blocks number cells (p + 1)) (λ is. ap (block_gives x) (sym here) ∙ quiet 0 x refl is)
      ∙ given_none cells (p + 1) (λ place cell at is. (let there : p + 1 + place ≡ p + suc place = omega arith in ap (block_gives cell) there) ∙ quiet (suc place) cell at is)

  taken : (b : Bool) (s : Action) (rest : List Action) → b ≡ true → given_by (map (process_of shapes) rest) values r ≡ None
      → given_by (map (process_of shapes) (unless (not b) s rest)) values r ≡ given shapes values s r
  taken true s rest is none = ap (later (given shapes values s r)) none
  taken false s rest is none = absurd (grind arith)

  -- only one block gives it a value
  pub given_one : (cells : List Cell) (p place : ℕ) (cell : Cell) → slice_get cells place ≡ Some cell → is_register cell.item ≡ true
      → ((j : ℕ) (c : Cell) → slice_get cells j ≡ Some c → is_register c.item ≡ true → (j ≡ place → ⊥) → block_gives c (p + j) ≡ None) → all_give cells p ≡ block_gives cell (p + place)
  given_one [] p place cell at is quiet = absurd (omega (arith, slice_get_within {A = Cell} [] place cell at))
  given_one (x ∷ cells) p zero cell at is quiet =
      let same = one_cell x cell at in
      let here : p ≡ p + 0 = omega arith in
      taken (is_register x.item) _ (node_blocks number cells (p + 1)) (ap (λ (c : Cell). is_register c.item) same ∙ is)
      (given_none cells (p + 1) (λ j c found reg. (let there : p + 1 + j ≡ p + suc j = omega arith in ap (block_gives c) there) ∙ quiet (suc j) c found reg (λ e. omega arith)))
      ∙ ap (λ (c : Cell). block_gives c p) same ∙ ap (block_gives cell) here
  given_one (x ∷ cells) p (suc place) cell at is quiet =
      let here : p + 0 ≡ p = omega arith in
      let there : p + 1 + place ≡ p + suc place = omega arith in
      left_out (is_register x.item) _ (node_blocks number cells (p + 1)) (λ reg. ap (block_gives x) (sym here) ∙ quiet 0 x refl reg (λ e. omega arith))
      ∙ given_one cells (p + 1) place cell at is
      (λ j c found reg apart. (let over : p + 1 + j ≡ p + suc j = omega arith in ap (block_gives c) over) ∙ quiet (suc j) c found reg (λ e. apart (omega arith)))
      ∙ ap (block_gives cell) there
