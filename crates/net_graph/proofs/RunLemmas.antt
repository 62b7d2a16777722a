-- A net has exactly one run for each list of inputs and each lawful cut.
use Rattle.std.proofs.Common.{◌≡◌, ℕ, zero, suc, ◌+◌, ◌<◌, ◌≤◌, ◌^◌, List, [], ◌∷◌, ◌++◌, length, refl, sym, ◌∙◌, ap, arith, Option, Some, None, slice_get, inl, inr, subst, ℤ, pos, ◌+ℤ◌, ◌-ℤ◌, ◌*ℤ◌, IsSome, get_or, length-append, Bool}
use Rattle.std.proofs.Math.ListN.{get_or-append}
use Rattle.std.proofs.lemmas.List.{get_or_push}
use Rattle.std.proofs.lemmas.Bool.{cases_lt}
use Rattle.mr_values.specs.Width.{floor_quotient, chosen}
use Rattle.mr_values.proofs.WidthLemmas.{FitsWidth-zero}
use Rattle.net_graph.proofs.CellLemmas.{cell_at-there}
use Rattle.net_graph.specs.declared.cell.Cell.{Cell}
use Rattle.net_graph.specs.declared.cell.Node.{Node}
use Rattle.net_graph.specs.declared.cell.Item.{Item}
use Rattle.net_graph.specs.declared.cell.Item.TheVariants.{Input, Constant, Add, Sub, Shl, Shr, Mux, Equal, Bits, Register}
use Rattle.net_graph.specs.Cells.{cell_at}
use Rattle.net_graph.specs.Name.{is_control}
use Rattle.net_graph.specs.WellFormed.{IsNetlist, OperandsBelow}
use Rattle.net_graph.specs.Cut.{Cut, IsCut}
use Rattle.net_graph.specs.Run.{Values, Obeys, IsRun, result_of, equality, selected}
use Rattle.net_graph.specs.Grow.{Extends}

-- an item that is no register makes the same of the same earlier values
result_of-same : (place count width : ℕ) (item : Item) (input : ℤ) (now now' : ℕ → ℤ) → OperandsBelow place count width (Some item) → ((next : Node) → item ≡ Register next → ⊥) → ((k : ℕ) → k < place → now k ≡ now' k) → result_of item input now ≡ result_of item input now'
result_of-same place count width Input input now now' o comb e = refl
result_of-same place count width (Constant v) input now now' o comb e = refl
result_of-same place count width (Add a b) input now now' o comb e = ap (λ (n : ℤ). n +ℤ now b.place) (e a.place o.0) ∙ ap (λ (n : ℤ). now' a.place +ℤ n) (e b.place o.1)
result_of-same place count width (Sub a b) input now now' o comb e = ap (λ (n : ℤ). n -ℤ now b.place) (e a.place o.0) ∙ ap (λ (n : ℤ). now' a.place -ℤ n) (e b.place o.1)
result_of-same place count width (Shl a by) input now now' o comb e = ap (λ (n : ℤ). n *ℤ pos (2 ^ by)) (e a.place o.0)
result_of-same place count width (Shr a by) input now now' o comb e = ap (λ (n : ℤ). floor_quotient n (2 ^ by)) (e a.place o.0)
result_of-same place count width (Mux on a b) input now now' o comb e =
    ap (λ (n : ℤ). chosen n (now a.place) (now b.place)) (e on.place o.0)
    ∙ ap (λ (n : ℤ). chosen (now' on.place) n (now b.place)) (e a.place o.1)
    ∙ ap (λ (n : ℤ). chosen (now' on.place) (now' a.place) n) (e b.place o.2)
result_of-same place count width (Equal a b) input now now' o comb e = ap (λ (n : ℤ). equality n (now b.place)) (e a.place o.0) ∙ ap (λ (n : ℤ). equality (now' a.place) n) (e b.place o.1)
result_of-same place count width (Bits a high low) input now now' o comb e = ap (λ (n : ℤ). selected n high low) (e a.place o.0)
result_of-same place count width (Register next) input now now' o comb e = absurd (comb next refl)

-- two runs agree at a node where they agree at the earlier nodes, and at the node itself if it is a register
same_node : (cut : ℤ → ℤ) (x : ℕ → ℤ) (v u : Values) (t place count width : ℕ) (item : Option Item) → Obeys cut x v place item → Obeys cut x u place item
    → OperandsBelow place count width item → IsSome item → ((k : ℕ) → k < place → v t k ≡ u t k) → ((next : Node) → item ≡ Some (Register next) → v t place ≡ u t place) → v t place ≡ u t place
same_node cut x v u t place count width None p q o s below reg = absurd (cc)
same_node cut x v u t place count width (Some (Register next)) p q o s below reg = reg next refl
same_node cut x v u t place count width (Some item) p q o s below reg = p t ∙ ap cut (result_of-same place count width item (x t) (v t) (u t) o (λ next e. absurd (cc)) below) ∙ sym (q t)

module _ (cut : Cut) (cells : List Cell) (x : ℕ → ℤ) (v u : Values) (net : IsNetlist cells) (p : IsRun cut cells x v) (q : IsRun cut cells x u) where
  -- the nodes below n, where the registers agree
  same_below : (t n : ℕ) → n ≤ length cells → ((k : ℕ) (cell : Cell) (next : Node) → slice_get cells k ≡ Some cell → cell.item ≡ Some (Register next) → v t k ≡ u t k) → (k : ℕ) → k < n → v t k ≡ u t k
  same_below t zero l reg k h = absurd (omega arith)
  same_below t (suc n) l reg k h = elim (cases_lt k n) [
    | inl less ↦ same_below t n (omega arith) reg k less
    | inr more ↦
        let cell = cell_at cells k in
        let is = cell_at-there cells k (omega arith) in
        same_node (cut (is_control cell) cell.width) x v u t k (length cells) cell.width cell.item (p.each k cell is) (q.each k cell is) (net.well_formed.each k cell is).operands (net.bound.each k cell is)
        (λ j less. same_below t n (omega arith) reg j (omega arith))
        (λ next i. reg k cell next is i)
  ]

  starts : (w : Values) → IsRun cut cells x w → (k : ℕ) (cell : Cell) (next : Node) → slice_get cells k ≡ Some cell → cell.item ≡ Some (Register next) → w 0 k ≡ pos 0
  starts w r k cell next there i = let o : Obeys (cut (is_control cell) cell.width) x w k (Some (Register next)) = subst (λ (it : Option Item). Obeys (cut (is_control cell) cell.width) x w k it) i (r.each k cell there) in o.0

  steps : (w : Values) → IsRun cut cells x w → (t k : ℕ) (cell : Cell) (next : Node) → slice_get cells k ≡ Some cell → cell.item ≡ Some (Register next) → w (suc t) k ≡ cut (is_control cell) cell.width (w t next.place)
  steps w r t k cell next there i = let o : Obeys (cut (is_control cell) cell.width) x w k (Some (Register next)) = subst (λ (it : Option Item). Obeys (cut (is_control cell) cell.width) x w k it) i (r.each k cell there) in o.1 t

  -- one run for each list of inputs
  pub run_same : (t k : ℕ) → k < length cells → v t k ≡ u t k
  run_same zero k h = same_below zero (length cells) (omega arith) (λ j cell next there i. starts v p j cell next there i ∙ sym (starts u q j cell next there i)) k h
  run_same (suc t) k h = same_below (suc t) (length cells) (omega arith)
      (λ j cell next there i.
      let has : next.place < length cells = subst (λ (it : Option Item). OperandsBelow j (length cells) cell.width it) i (net.well_formed.each j cell there).operands in
      steps v p t j cell next there i ∙ ap (cut (is_control cell) cell.width) (run_same t next.place has) ∙ sym (steps u q t j cell next there i)) k h

-- between two finished nets of which one extends the other, each earlier node has the same values
pub kept_values : (old new : List Cell) → IsNetlist old → Extends old new → (cut : Cut) → IsCut cut → (x : ℕ → ℤ) (v u : Values) → IsRun cut old x v → IsRun cut new x u → (t place : ℕ) → place < length old → u t place ≡ v t place
kept_values old new net more cut law x v u p q t place inside = run_same cut old x u v net (more.runs cut law x u q) p t place inside

-- ---- there is a run

-- a node's value before it is cut, from the input, from what each node was worth a tick before, and from the earlier nodes' values
value_of : Option Item → ℤ → (ℕ → ℤ) → (ℕ → ℤ) → ℤ
value_of None input before now = pos 0
value_of (Some (Register next)) input before now = before next.place
value_of (Some item) input before now = result_of item input now

-- the number at a place of a list, 0 past its end
abbrev value_at : List ℤ → ℕ → ℤ
value_at values place = get_or values place (pos 0)

module _ (cut : Cut) where
  -- what a node is worth
  worth : Cell → ℤ → (ℕ → ℤ) → (ℕ → ℤ) → ℤ
  worth cell input before now = cut (is_control cell) cell.width (value_of cell.item input before now)

  -- the values of these nodes after those of the earlier ones
  row_after : List Cell → ℤ → (ℕ → ℤ) → List ℤ → List ℤ
  row_after [] input before row = row
  row_after (cell ∷ cells) input before row = row_after cells input before (row ++ worth cell input before (value_at row) ∷ [])

  -- the values of all nodes at a tick
  row_at : List Cell → (ℕ → ℤ) → ℕ → List ℤ
  row_at cells inputs zero = row_after cells (inputs 0) (λ _. pos 0) []
  row_at cells inputs (suc t) = row_after cells (inputs (suc t)) (value_at (row_at cells inputs t)) []

  -- the value of the node at a place at a tick
  pub at : List Cell → (ℕ → ℤ) → Values
  at cells inputs t place = value_at (row_at cells inputs t) place

  -- the values of the earlier nodes stay
  prefix_kept : (cells : List Cell) (input : ℤ) (before : ℕ → ℤ) (row : List ℤ) (k : ℕ) → k < length row → value_at (row_after cells input before row) k ≡ value_at row k
  unfolding row_after
  prefix_kept [] input before row k h = refl
  prefix_kept (c ∷ cells) input before row k h =
      let v = worth c input before (value_at row) in
      prefix_kept cells input before (row ++ v ∷ []) k (omega (arith, length-append row (v ∷ []))) ∙ get_or-append row (v ∷ []) (pos 0) k h

  -- a node's value turns on the earlier nodes alone
  value_same : (place count width : ℕ) (item : Option Item) (input : ℤ) (before now now' : ℕ → ℤ) → OperandsBelow place count width item → ((k : ℕ) → k < place → now k ≡ now' k) → value_of item input before now ≡ value_of item input before now'
  unfolding value_of
  value_same place count width None input before now now' o same = refl
  value_same place count width (Some (Register next)) input before now now' o same = refl
  value_same place count width (Some item) input before now now' o same = result_of-same place count width item input now now' o (λ next e. absurd (cc)) same

  -- each node has the value that its item gives from the whole row
  row_node : (cells : List Cell) (input : ℤ) (before : ℕ → ℤ) (row : List ℤ) (j place count : ℕ) (cell : Cell) → slice_get cells j ≡ Some cell → place ≡ length row + j → OperandsBelow place count cell.width cell.item
      → value_at (row_after cells input before row) place ≡ worth cell input before (value_at (row_after cells input before row))
  unfolding row_after worth
  row_node [] input before row j place count cell e is o = absurd (cc)
  row_node (c ∷ cells) input before row zero place count cell e is o =
      let v = worth c input before (value_at row) in
      let same : c ≡ cell = cc in
      let here : place ≡ length row = omega arith in
      let o' : OperandsBelow (length row) count c.width c.item = rw (same, ← here) o in
      let more = length-append row (v ∷ []) in
      rw here (
      prefix_kept cells input before (row ++ v ∷ []) (length row) (omega arith)
      ∙ get_or_push row v (pos 0) (length row) refl
      ∙ ap (cut (is_control c) c.width) (value_same (length row) count c.width c.item input before (value_at row) _ o' (λ k h. sym (prefix_kept (c ∷ cells) input before row k h)))
      ∙ ap (λ (d : Cell). worth d input before (value_at (row_after (c ∷ cells) input before row))) same)
  row_node (c ∷ cells) input before row (suc j) place count cell e is o =
      let v = worth c input before (value_at row) in
      row_node cells input before (row ++ v ∷ []) j place count cell e (omega (arith, length-append row (v ∷ []))) o

  -- what each node was worth a tick before
  before_at : List Cell → (ℕ → ℤ) → ℕ → ℕ → ℤ
  before_at cells x zero = λ _. pos 0
  before_at cells x (suc t) = value_at (row_at cells x t)

  row_at_is : (cells : List Cell) (x : ℕ → ℤ) (t : ℕ) → row_at cells x t ≡ row_after cells (x t) (before_at cells x t) []
  unfolding row_at before_at
  row_at_is cells x zero = refl
  row_at_is cells x (suc t) = refl

  obeys_from : IsCut cut → (cells : List Cell) (x : ℕ → ℤ) (place width : ℕ) (control : Bool) (item : Option Item) → 1 ≤ width → IsSome item → ((t : ℕ) → at cells x t place ≡ cut control width (value_of item (x t) (before_at cells x t) (at cells x t))) → Obeys (cut control width) x (at cells x) place item
  unfolding before_at value_of at
  obeys_from law cells x place width control None wide s h = absurd (cc)
  obeys_from law cells x place width control (Some (Register next)) wide s h = (h 0 ∙ law.fitting control width (pos 0) wide (FitsWidth-zero width), λ t. h (suc t))
  obeys_from law cells x place width control (Some item) wide s h = h

  -- what is computed tick by tick is a run
  pub IsRun-at : IsCut cut → (cells : List Cell) (x : ℕ → ℤ) → IsNetlist cells → IsRun cut cells x (at cells x)
  unfolding at worth
  IsRun-at law cells x net = record {
    each = λ k cell e.
        let r = net.well_formed.each k cell e in
        obeys_from law cells x k cell.width (is_control cell) cell.item r.wide.0 (net.bound.each k cell e)
        (λ t.
        let P : List ℤ → Type 0 = λ row. value_at row k ≡ worth cell (x t) (before_at cells x t) (value_at row) in
        subst P (sym (row_at_is cells x t)) (row_node cells (x t) (before_at cells x t) [] k k (length cells) cell e (omega arith) r.operands));
  }

-- a finished net has a run for each list of inputs and each lawful cut
pub some_run : (cut : Cut) → IsCut cut → (cells : List Cell) (x : ℕ → ℤ) → IsNetlist cells → (values : Values) × IsRun cut cells x values
some_run cut law cells x net = (at cut cells x, IsRun-at cut law cells x net)
