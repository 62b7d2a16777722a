-- The evaluation of all assignments in an order gives the settling.
use Rattle.std.proofs.Common.{◌≡◌, ℕ, zero, suc, ◌+◌, ◌<◌, ◌≤◌, ◌^◌, Bool, true, false, List, [], ◌∷◌, Some, length, get_or, set, slice_get, refl, sym, ap, ◌∙◌, arith, subst}
use Rattle.std.specs.Prelude.{◌==◌, if◌then◌else◌}
use Rattle.std.proofs.Math.Path.{fun_ext}
use Rattle.std.proofs.lemmas.Bool.{eqb-true, eqb-false, eq-eqb, ne_eqb}
use Rattle.std.proofs.lemmas.List.{get_or-set_same, get_or-set_other, length-map}
use Rattle.std.proofs.lemmas.Option.{slice_get-get_or, slice_get_within}
use Rattle.verilog_tree.specs.Tree.{Assignment, Design}
use Rattle.verilog_tree.specs.Meaning.{Shapes, Values, FitNames, assigned}
use Rattle.verilog_tree.specs.Names.{shapes_of}
use Rattle.verilog_tree.specs.Circuit.{put, Driver, Circuit, IsSettling, IsSound}
use Rattle.verilog_tree.specs.Cycle.{driver_of, circuit_of}
use Rattle.verilog_tree.specs.declared.tree.Module.{Module}
use Rattle.verilog_tree.specs.View.{assignment_view, design_view}
use Rattle.settle_order.specs.Placing.{IsEvaluationOrder}
use Rattle.settle_order.proofs.Opened.{same_some}
use Rattle.settle_order.proofs.Turns.{driver_at}
use Rattle.clock_sim.specs.Simulated.{values_of, IsSettledTo}

put_here : (v : Values) (n x : ℕ) → put v n x n ≡ x
put_here v n x = ap (λ (b : Bool). if b then x else v n) (eq-eqb n n refl)

put_other : (v : Values) (n x m : ℕ) → (m ≡ n → ⊥) → put v n x m ≡ v m
put_other v n x m apart = ap (λ (b : Bool). if b then x else v m) (ne_eqb m n apart)

-- a write to the list of values
pub values_set : (values : List ℕ) (target x : ℕ) → target < length values → values_of (set values target x) ≡ put (values_of values) target x
values_set values target x lt = fun_ext (λ n. by n (n == target) refl)
  where
    by : (n : ℕ) (b : Bool) → (n == target) ≡ b → values_of (set values target x) n ≡ put (values_of values) target x n
    by n b e = step b e ∙ sym (ap (λ (t : Bool). if t then x else values_of values n) e)
      where
        step : (b : Bool) → (n == target) ≡ b → values_of (set values target x) n ≡ (if b then x else values_of values n)
        step true e = ap (values_of (set values target x)) (eqb-true n target e) ∙ get_or-set_same values target x 0 lt
        step false e = get_or-set_other values target n x 0 (eqb-false n target e)

pub fit_put : (shapes : Shapes) (v : Values) (target x : ℕ) → FitNames shapes v → x < 2 ^ shapes.width target → FitNames shapes (put v target x)
fit_put shapes v target x fits small = record { each = λ n. by n (n == target) refl }
  where
    by : (n : ℕ) (b : Bool) → (n == target) ≡ b → (if b then x else v n) < 2 ^ shapes.width n
    by n true e = subst (λ (m : ℕ). x < 2 ^ shapes.width m) (sym (eqb-true n target e)) small
    by n false e = fits.each n

module _ (c : Circuit) (sound : IsSound c) (content : Values) (order : List ℕ) (is_order : IsEvaluationOrder c order) where
  pub settled_first : IsSettledTo c content order 0 content
  settled_first = record { sources = λ n source. refl; settled = λ i k d lt. absurd (omega (arith, lt)) }

  pub settled_more : (place k : ℕ) (d : Driver) (v : Values) → slice_get order place ≡ Some k → slice_get c.drivers k ≡ Some d
      → IsSettledTo c content order place v → IsSettledTo c content order (place + 1) (put v d.target (d.value v))
  settled_more place k d v here at so_far = record {
    sources = λ n source. put_other v d.target (d.value v) n (λ is. source k d at (sym is)) ∙ so_far.sources n source;
    settled = λ i j e lt found at_e. settled i j e lt found at_e (e.target == d.target) refl;
  }
    where
      settled : (i j : ℕ) (e : Driver) → i < place + 1 → slice_get order i ≡ Some j → slice_get c.drivers j ≡ Some e → (b : Bool) → (e.target == d.target) ≡ b
          → put v d.target (d.value v) e.target ≡ e.value (put v d.target (d.value v))
      settled i j e lt found at_e b is = by b is ∙ sym unread
        where
          apart : false ≡ true → ⊥
          apart same = cc

          unread : e.value (put v d.target (d.value v)) ≡ e.value v
          unread = sound.depends j e at_e (put v d.target (d.value v)) v (λ r reads.
              put_other v d.target (d.value v) r (λ same. apart (sym (is_order.later i place j k e d (omega (arith, lt)) found here at_e at) ∙ ap e.reads (sym same) ∙ reads)))

          by : (b : Bool) → (e.target == d.target) ≡ b → put v d.target (d.value v) e.target ≡ e.value v
          by true is =
              let place_same : j ≡ k = sound.one_driver j k e d at_e at (eqb-true _ _ is) in
              let same : e ≡ d = same_some e d (sym at_e ∙ ap (slice_get c.drivers) place_same ∙ at) in
              ap (λ (y : Driver). put v d.target (d.value v) y.target) same ∙ put_here v d.target (d.value v) ∙ ap (λ (y : Driver). y.value v) (sym same)
          by false is =
              put_other v d.target (d.value v) e.target (eqb-false _ _ is)
              ∙ so_far.settled i j e (before (λ same. eqb-false _ _ is (ap (λ (y : Driver). y.target) (same_driver same)))) found at_e
            where
              same_driver : i ≡ place → e ≡ d
              same_driver same =
                  let places : j ≡ k = same_some j k (sym found ∙ ap (slice_get order) same ∙ here) in
                  same_some e d (sym at_e ∙ ap (slice_get c.drivers) places ∙ at)

              before : (i ≡ place → ⊥) → i < place
              before not_last = omega (arith, lt, not_last)

  pub settled_all : (place : ℕ) (v : Values) → length order ≤ place → IsSettledTo c content order place v → IsSettling c content v
  settled_all place v le all = record {
    sources = all.sources;
    settled = λ k d at. let found = is_order.covers k d at in all.settled found.0 k d (omega (arith, le, slice_get_within order found.0 k found.1)) found.1 at;
  }

there : {A : Type 0} (xs : List A) (k : ℕ) → k < length xs → (x : A) × (slice_get xs k ≡ Some x)
there [] k lt = absurd (omega (arith, lt))
there (x ∷ xs) zero lt = (x, refl)
there (x ∷ xs) (suc k) lt = there xs k (omega (arith, lt))

-- the assignment that an order names
pub named_assign : (m : Module) (order : List ℕ) → IsEvaluationOrder (circuit_of (design_view m)) order → (place : ℕ) → place < length order → get_or order place 0 < length m.assigns.items
named_assign m order is_order place lt =
    let d = design_view m in
    let drivers = length-map d.assigns (driver_of (shapes_of d)) in
    let assigns = length-map m.assigns.items assignment_view in
    let inside = is_order.within place 0 lt in
    omega (arith, drivers, assigns, inside)

-- the values after an evaluation of one assignment
pub record IsEvaluated (d : Design) (place : ℕ) (values after : List ℕ) : Type 0 where
  pub value : (e : Driver) → slice_get (circuit_of d).drivers place ≡ Some e → values_of after ≡ put (values_of values) e.target (e.value (values_of values))

pub one_evaluated : (d : Design) (k : ℕ) (a : Assignment) (values : List ℕ) (bits : ℕ) → slice_get d.assigns k ≡ Some a → a.target < length values
    → bits ≡ assigned (shapes_of d) (values_of values) a.target a.value → IsEvaluated d k values (set values a.target bits)
one_evaluated d k a values bits at target is = record {
  value = λ e found.
      let same : driver_of (shapes_of d) a ≡ e = same_some (driver_of (shapes_of d) a) e (sym (driver_at d k a at) ∙ found) in
      values_set values a.target bits target ∙ ap (put (values_of values) a.target) is ∙ ap (λ (x : Driver). put (values_of values) x.target (x.value (values_of values))) same;
}

-- one turn of the loop that settles
pub settle_turn : (d : Design) → IsSound (circuit_of d) → (content : Values) (order : List ℕ) → IsEvaluationOrder (circuit_of d) order
    → (place : ℕ) (values after : List ℕ) → place < length order → IsEvaluated d (get_or order place 0) values after → IsSettledTo (circuit_of d) content order place (values_of values)
    → IsSettledTo (circuit_of d) content order (place + 1) (values_of after)
settle_turn d sound content order is_order place values after lt one so_far =
    let c = circuit_of d in
    let k = get_or order place 0 in
    let driver = there c.drivers k (is_order.within place 0 lt) in
    let more = settled_more c sound content order is_order place k driver.0 (values_of values) (slice_get-get_or order place 0 lt) driver.1 so_far in
    subst (IsSettledTo c content order (place + 1)) (sym (one.value driver.0 driver.1)) more

pub names_turn : (shapes : Shapes) (values : List ℕ) (target bits : ℕ) → target < length values → FitNames shapes (values_of values) → bits < 2 ^ shapes.width target
    → FitNames shapes (values_of (set values target bits))
names_turn shapes values target bits lt fits small = subst (FitNames shapes) (sym (values_set values target bits lt)) (fit_put shapes (values_of values) target bits fits small)
