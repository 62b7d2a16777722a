-- What each step of a cycle keeps.
use Rattle.std.proofs.Common.{◌≡◌, ℕ, suc, Bool, true, false, not, ◌&&◌, ◌||◌, List, [], ◌∷◌, Option, Some, ◌⊎◌, inl, inr, slice_get, refl, sym, ap, ◌∙◌, arith, subst}
use Rattle.std.specs.Prelude.{◌==◌, if◌then◌else◌, All}
use Rattle.std.specs.Option.{option_map_or}
use Rattle.std.proofs.lemmas.Bool.{eqb-true, eqb-false, eq-eqb, ne_eqb}
use Rattle.verilog_tree.specs.Meaning.{Values}
use Rattle.verilog_tree.specs.Circuit.{put, Driver, Circuit, IsSource, IsSettled, IsSound}
use Rattle.event_order.specs.Order.{Moment, Step, reads_at, changed, evaluated, IsStep, Leads, IsAwake}

pub put_here : (v : Values) (n x : ℕ) → put v n x n ≡ x
put_here v n x = ap (λ (b : Bool). if b then x else v n) (eq-eqb n n refl)

pub put_other : (v : Values) (n x m : ℕ) → (m ≡ n → ⊥) → put v n x m ≡ v m
put_other v n x m apart = ap (λ (b : Bool). if b then x else v m) (ne_eqb m n apart)

pub put_same : (v : Values) (n x : ℕ) → v n ≡ x → (m : ℕ) → put v n x m ≡ v m
put_same v n x same m = by (m == n) refl
  where
    by : (b : Bool) → (m == n) ≡ b → (if b then x else v m) ≡ v m
    by true e = sym same ∙ ap v (sym (eqb-true m n e))
    by false e = refl

or_false : (a b : Bool) → (a || b) ≡ false → (a ≡ false) × (b ≡ false)
or_false true b e = absurd (grind arith)
or_false false b e = (refl, e)

and_false : (a b : Bool) → (not a && b) ≡ false → (a ≡ true) ⊎ (b ≡ false)
and_false true b e = inl refl
and_false false b e = inr e

pub same_some : {A : Type 0} (x y : A) → Some x ≡ Some y → x ≡ y
same_some x y same = cc

pub reads_here : (c : Circuit) (n k : ℕ) (d : Driver) → slice_get c.drivers k ≡ Some d → reads_at c n k ≡ d.reads n
reads_here c n k d at = ap (λ (o : Option Driver). option_map_or (λ (e : Driver). e.reads n) o false) at

module _ (c : Circuit) (sound : IsSound c) where
  -- an assignment that isn't pending after a change had, and has, the value of before
  not_woken : (n x : ℕ) (m : Moment) (k : ℕ) (d : Driver) → slice_get c.drivers k ≡ Some d → (changed c n x m).pending k ≡ false
      → (m.pending k ≡ false) × (d.value (put m.values n x) ≡ d.value m.values)
  not_woken n x m k d at quiet =
      let parts = or_false (m.pending k) (not (m.values n == x) && reads_at c n k) quiet in
      (parts.0, sound.depends k d at (put m.values n x) m.values (by (and_false _ _ parts.1)))
    where
      by : ((m.values n == x) ≡ true) ⊎ (reads_at c n k ≡ false) → (r : ℕ) → d.reads r ≡ true → put m.values n x r ≡ m.values r
      by (inl same) r reads = put_same m.values n x (eqb-true _ _ same) r
      by (inr unread) r reads = put_other m.values n x r (λ is. apart (sym (sym reads ∙ ap d.reads is ∙ sym (reads_here c n k d at) ∙ unread)))
        where
          apart : false ≡ true → ⊥
          apart e = cc

  -- a change of a register or an input
  pub source_awake : (n x : ℕ) (m : Moment) → IsSource c n → IsAwake c m → IsAwake c (changed c n x m)
  source_awake n x m source awake k d at quiet =
      let before = not_woken n x m k d at quiet in
      put_other m.values n x d.target (λ is. source k d at is) ∙ awake k d at before.0 ∙ sym before.1

  -- an evaluation
  pub evaluated_awake : (place : ℕ) (d : Driver) (m : Moment) → slice_get c.drivers place ≡ Some d → IsAwake c m → IsAwake c (evaluated c place d m)
  evaluated_awake place d m at awake k e found quiet = by (k == place) refl
    where
      cleared : Moment
      cleared = record m { pending = λ j. if j == place then false else m.pending j }

      by : (b : Bool) → (k == place) ≡ b → put m.values d.target (d.value m.values) e.target ≡ e.value (put m.values d.target (d.value m.values))
      by true is =
          let same : e ≡ d = same_some e d (sym found ∙ ap (slice_get c.drivers) (eqb-true k place is) ∙ at) in
          let before = not_woken d.target (d.value m.values) cleared k e found quiet in
          ap (λ (y : Driver). put m.values d.target (d.value m.values) y.target) same ∙ put_here m.values d.target (d.value m.values)
          ∙ ap (λ (y : Driver). y.value m.values) (sym same) ∙ sym before.1
      by false is =
          let before = not_woken d.target (d.value m.values) cleared k e found quiet in
          let quiet_before : m.pending k ≡ false = sym (ap (λ (b : Bool). if b then false else m.pending k) is) ∙ before.0 in
          put_other m.values d.target (d.value m.values) e.target (λ same. eqb-false k place is (sound.one_driver k place e d found at same))
          ∙ awake k e found quiet_before ∙ sym before.1

  pub evaluated_source : (place : ℕ) (d : Driver) (m : Moment) → slice_get c.drivers place ≡ Some d → (n : ℕ) → IsSource c n → (evaluated c place d m).values n ≡ m.values n
  evaluated_source place d m at n source = put_other m.values d.target (d.value m.values) n (λ is. source place d at (sym is))

  -- an evaluation among settled wires changes no value
  pub evaluated_settled : (place : ℕ) (d : Driver) (m : Moment) → slice_get c.drivers place ≡ Some d → IsSettled c m.values → (evaluated c place d m).values ≡ m.values
  evaluated_settled place d m at settled = λ i n. put_same m.values d.target (d.value m.values) (settled place d at) n i

  -- what each step keeps, the steps keep
  pub steps_keep : (P : Moment → Type 0) (Ok : Step → Type 0) → ((m : Moment) (s : Step) (after : Moment) → Ok s → P m → IsStep c m s after → P after)
      → (m : Moment) (ss : List Step) (after : Moment) → All Ok ss → P m → Leads c m ss after → P after
  steps_keep P Ok keep m [] after ok holds leads = subst P (sym leads) holds
  steps_keep P Ok keep m (s ∷ ss) after ok holds (middle, step, rest) = steps_keep P Ok keep middle ss after (λ k d lt. ok (suc k) d (omega (arith, lt))) (keep m s middle (ok 0 s (omega arith)) holds step) rest
