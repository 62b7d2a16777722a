-- Control nodes that read control nodes alone are worth the same in all runs, however they are cut.
use Rattle.std.proofs.Common.{◌≡◌, ℕ, zero, suc, ◌<◌, ◌^◌, List, length, refl, sym, ◌∙◌, ap, arith, Option, Some, None, slice_get, inl, inr, ℤ, pos, ◌+ℤ◌, ◌-ℤ◌, ◌*ℤ◌, Bool, true, subst, IsSome}
use Rattle.std.proofs.lemmas.Bool.{cases_lt}
use Rattle.mr_values.specs.Width.{wrap, floor_quotient, chosen}
use Rattle.net_graph.specs.declared.cell.Cell.{Cell}
use Rattle.net_graph.specs.declared.cell.Node.{Node}
use Rattle.net_graph.specs.declared.cell.Item.{Item}
use Rattle.net_graph.specs.declared.cell.Item.TheVariants.{Input, Constant, Add, Sub, Shl, Shr, Mux, Equal, Bits, Register}
use Rattle.net_graph.specs.Name.{is_control}
use Rattle.net_graph.specs.WellFormed.{IsNetlist, OperandsBelow}
use Rattle.net_graph.specs.Cut.{Cut, IsCut}
use Rattle.net_graph.specs.Run.{Values, Obeys, IsRun, result_of, equality, selected}
use Rattle.net_graph.specs.Control.{IsOfControl, ReadsControl, IsControlClosed}

module _ (cells : List Cell) (net : IsNetlist cells) (closed : IsControlClosed cells) (cut other : Cut) (law : IsCut cut) (law' : IsCut other) (x y : ℕ → ℤ) (v u : Values) (p : IsRun cut cells x v) (q : IsRun other cells y u) where
  -- both cuts of a control node are the same
  both : (control : Bool) (w : ℕ) (m n : ℤ) → control ≡ true → m ≡ n → cut control w m ≡ other control w n
  both control w m n is e = subst (λ (b : Bool). cut b w m ≡ other b w n) (sym is) (law.controls w m ∙ ap (wrap w) e ∙ sym (law'.controls w n))

  -- an item that reads control nodes makes the same of the same control values
  result_same : (place count width : ℕ) (item : Item) (m n : ℤ) (now now' : ℕ → ℤ) → ReadsControl cells (Some item) → OperandsBelow place count width (Some item) → ((next : Node) → item ≡ Register next → ⊥) → ((k : ℕ) → k < place → IsOfControl cells k → now k ≡ now' k) → result_of item m now ≡ result_of item n now'
  result_same place count width Input m n now now' r o comb e = absurd r
  result_same place count width (Constant c) m n now now' r o comb e = refl
  result_same place count width (Add a b) m n now now' r o comb e = ap (λ (z : ℤ). z +ℤ now b.place) (e a.place o.0 r.0) ∙ ap (λ (z : ℤ). now' a.place +ℤ z) (e b.place o.1 r.1)
  result_same place count width (Sub a b) m n now now' r o comb e = ap (λ (z : ℤ). z -ℤ now b.place) (e a.place o.0 r.0) ∙ ap (λ (z : ℤ). now' a.place -ℤ z) (e b.place o.1 r.1)
  result_same place count width (Shl a by) m n now now' r o comb e = ap (λ (z : ℤ). z *ℤ pos (2 ^ by)) (e a.place o.0 r)
  result_same place count width (Shr a by) m n now now' r o comb e = ap (λ (z : ℤ). floor_quotient z (2 ^ by)) (e a.place o.0 r)
  result_same place count width (Mux on a b) m n now now' r o comb e =
      ap (λ (z : ℤ). chosen z (now a.place) (now b.place)) (e on.place o.0 r.0) ∙ ap (λ (z : ℤ). chosen (now' on.place) z (now b.place)) (e a.place o.1 r.1)
      ∙ ap (λ (z : ℤ). chosen (now' on.place) (now' a.place) z) (e b.place o.2 r.2)
  result_same place count width (Equal a b) m n now now' r o comb e = ap (λ (z : ℤ). equality z (now b.place)) (e a.place o.0 r.0) ∙ ap (λ (z : ℤ). equality (now' a.place) z) (e b.place o.1 r.1)
  result_same place count width (Bits a high low) m n now now' r o comb e = ap (λ (z : ℤ). selected z high low) (e a.place o.0 r)
  result_same place count width (Register next) m n now now' r o comb e = absurd (comb next refl)

  same_node : (t place count width : ℕ) (control : Bool) (item : Option Item) → control ≡ true → IsSome item → Obeys (cut control width) x v place item → Obeys (other control width) y u place item → ReadsControl cells item → OperandsBelow place count width item
      → ((k : ℕ) → k < place → IsOfControl cells k → v t k ≡ u t k) → ((next : Node) → item ≡ Some (Register next) → v t place ≡ u t place) → v t place ≡ u t place
  same_node t place count width control None is s a b r o below reg = absurd (cc)
  same_node t place count width control (Some (Register next)) is s a b r o below reg = reg next refl
  same_node t place count width control (Some item) is s a b r o below reg = a t ∙ both control width _ _ is (result_same place count width item (x t) (y t) (v t) (u t) r o (λ next e. absurd (cc)) below) ∙ sym (b t)

  -- the control nodes below n, where the control registers agree
  same_below : (t n : ℕ) → ((k : ℕ) (cell : Cell) (next : Node) → slice_get cells k ≡ Some cell → is_control cell ≡ true → cell.item ≡ Some (Register next) → v t k ≡ u t k) → (k : ℕ) → k < n → IsOfControl cells k → v t k ≡ u t k
  same_below t zero reg k h is = absurd (omega arith)
  same_below t (suc n) reg k h is = elim (cases_lt k n) [
    | inl less ↦ same_below t n reg k less is
    | inr more ↦
        let cell = is.cell in
        same_node t k (length cells) cell.width (is_control cell) cell.item is.control (net.bound.each k cell is.there) (p.each k cell is.there) (q.each k cell is.there) (closed.each k cell is.there is.control) ((net.well_formed.each k cell is.there).operands)
        (λ j less. same_below t n reg j (omega arith))
        (λ next i. reg k cell next is.there is.control i)
  ]

  registers : (k : ℕ) (cell : Cell) (next : Node) → slice_get cells k ≡ Some cell → cell.item ≡ Some (Register next) → Obeys (cut (is_control cell) cell.width) x v k (Some (Register next)) × Obeys (other (is_control cell) cell.width) y u k (Some (Register next))
  registers k cell next there i =
      (subst (λ (it : Option Item). Obeys (cut (is_control cell) cell.width) x v k it) i (p.each k cell there), subst (λ (it : Option Item). Obeys (other (is_control cell) cell.width) y u k it) i (q.each k cell there))

  -- one value in all runs
  pub control_same : (t k : ℕ) → IsOfControl cells k → v t k ≡ u t k
  control_same zero k is = same_below zero (suc k) (λ j cell next there control i. let o = registers j cell next there i in o.0.0 ∙ sym (o.1.0)) k (omega arith) is
  control_same (suc t) k is = same_below (suc t) (suc k)
      (λ j cell next there control i.
      let o = registers j cell next there i in
      let reads : IsOfControl cells next.place = subst (λ (it : Option Item). ReadsControl cells it) i (closed.each j cell there control) in
      o.0.1 t ∙ both (is_control cell) cell.width _ _ control (control_same t next.place reads) ∙ sym (o.1.1 t)) k (omega arith) is
