-- The places found give an evaluation order of a circuit without a loop.
use Rattle.std.proofs.Common.{◌≡◌, ℕ, zero, suc, ◌<◌, ◌≤◌, Bool, true, false, List, [], ◌∷◌, ◌++◌, Some, length, get_or, ◌⊎◌, inl, inr, slice_get, refl, sym, ap, ◌∙◌, arith}
use Rattle.std.specs.Prelude.{◌==◌, if◌then◌else◌}
use Rattle.std.proofs.lemmas.Bool.{eqb-true, eq-eqb}
use Rattle.std.proofs.lemmas.Option.{slice_get_within, slice_get-get_or}
use Rattle.verilog_tree.specs.Circuit.{Driver, Circuit, IsSound, HasNoLoop, IsLevelled}
use Rattle.settle_order.specs.Placing.{IsEvaluationOrder}
use Rattle.settle_order.specs.Placing.{IsPlaced, IsStuck}
use Rattle.settle_order.proofs.Opened.{same_some, closed}

-- an element of a list with one more at its end
last_or_before : (xs : List ℕ) (y i k : ℕ) → slice_get (xs ++ y ∷ []) i ≡ Some k → (slice_get xs i ≡ Some k) ⊎ ((i ≡ length xs) × (y ≡ k))
last_or_before [] y zero k is = inr (refl, same_some y k is)
last_or_before [] y (suc i) k is = absurd (grind arith)
last_or_before (x ∷ xs) y zero k is = inl is
last_or_before (x ∷ xs) y (suc i) k is = by (last_or_before xs y i k is)
  where
    by : (slice_get xs i ≡ Some k) ⊎ ((i ≡ length xs) × (y ≡ k)) → (slice_get xs i ≡ Some k) ⊎ ((suc i ≡ suc (length xs)) × (y ≡ k))
    by (inl before) = inl before
    by (inr here) = inr (ap suc here.0, here.1)

get_left : (xs : List ℕ) (y i k : ℕ) → slice_get xs i ≡ Some k → slice_get (xs ++ y ∷ []) i ≡ Some k
get_left [] y i k is = absurd (grind arith)
get_left (x ∷ xs) y zero k is = is
get_left (x ∷ xs) y (suc i) k is = get_left xs y i k is

get_last : (xs : List ℕ) (y : ℕ) → slice_get (xs ++ y ∷ []) (length xs) ≡ Some y
get_last [] y = refl
get_last (x ∷ xs) y = get_last xs y

still_closed : (opened : ℕ → Bool) (name n : ℕ) → opened n ≡ false → closed opened name n ≡ false
still_closed opened name n is = by (n == name)
  where
    by : (b : Bool) → (if b then false else opened n) ≡ false
    by true = refl
    by false = is

closed_here : (opened : ℕ → Bool) (name : ℕ) → closed opened name name ≡ false
closed_here opened name = ap (λ (b : Bool). if b then false else opened name) (eq-eqb name name refl)

-- what is open after a closing was open, what is closed is that name or was closed
was_open : (opened : ℕ → Bool) (name n : ℕ) → closed opened name n ≡ true → opened n ≡ true
was_open opened name n is = by (n == name) is
  where
    by : (b : Bool) → (if b then false else opened n) ≡ true → opened n ≡ true
    by true e = absurd (grind arith)
    by false e = e

was_closed : (opened : ℕ → Bool) (name n : ℕ) → closed opened name n ≡ false → (n ≡ name) ⊎ (opened n ≡ false)
was_closed opened name n is = by (n == name) refl is
  where
    by : (b : Bool) → (n == name) ≡ b → (if b then false else opened n) ≡ false → (n ≡ name) ⊎ (opened n ≡ false)
    by true e closed = inl (eqb-true n name e)
    by false e closed = inr closed

pub not_both : (b : Bool) → b ≡ true → b ≡ false → ⊥
not_both b t f = cc

false_unless : (b : Bool) → (b ≡ true → ⊥) → b ≡ false
false_unless true h = absurd (h refl)
false_unless false h = refl

module _ (c : Circuit) (sound : IsSound c) where
  pub place_one : (opened : ℕ → Bool) (order : List ℕ) (k : ℕ) (d : Driver) → IsPlaced c opened order → slice_get c.drivers k ≡ Some d → opened d.target ≡ true
      → ((n : ℕ) → d.reads n ≡ true → opened n ≡ false) → IsPlaced c (closed opened d.target) (order ++ k ∷ [])
  place_one opened order k d h at is_open ready = record {
    placed = λ i j found. placed i j (last_or_before order k i j found);
    covers = λ j e at_e is. covers j e at_e (was_closed opened d.target e.target is);
    opens = λ n is. h.opens n (was_open opened d.target n is);
    once = λ i j x found also. once i j x (last_or_before order k i x found) (last_or_before order k j x also);
    later = λ i j a b x y le found also at_x at_y. later i j a b x y le (last_or_before order k i a found) (last_or_before order k j b also) at_x at_y;
  }
    where
      -- this place is not there yet
      fresh : (i : ℕ) → slice_get order i ≡ Some k → ⊥
      fresh i found =
          let old = h.placed i k found in
          let same : old.0 ≡ d = same_some old.0 d (sym old.1 ∙ at) in
          not_both (opened d.target) is_open (ap (λ (y : Driver). opened y.target) (sym same) ∙ old.2)

      placed : (i j : ℕ) → (slice_get order i ≡ Some j) ⊎ ((i ≡ length order) × (k ≡ j))
          → (e : Driver) × (slice_get c.drivers j ≡ Some e) × (closed opened d.target e.target ≡ false) × ((n : ℕ) → e.reads n ≡ true → closed opened d.target n ≡ false)
      placed i j (inl before) =
          let old = h.placed i j before in
          (old.0, old.1, still_closed opened d.target (old.0).target old.2, λ n reads. still_closed opened d.target n (old.3 n reads))
      placed i j (inr here) =
          (d, ap (slice_get c.drivers) (sym here.1) ∙ at, closed_here opened d.target, λ n reads. still_closed opened d.target n (ready n reads))

      covers : (j : ℕ) (e : Driver) → slice_get c.drivers j ≡ Some e → (e.target ≡ d.target) ⊎ (opened e.target ≡ false) → (i : ℕ) × (slice_get (order ++ k ∷ []) i ≡ Some j)
      covers j e at_e (inl same) = (length order, get_last order k ∙ ap Some (sym (sound.one_driver j k e d at_e at same)))
      covers j e at_e (inr old) = let found = h.covers j e at_e old in (found.0, get_left order k found.0 j found.1)

      once : (i j x : ℕ) → (slice_get order i ≡ Some x) ⊎ ((i ≡ length order) × (k ≡ x)) → (slice_get order j ≡ Some x) ⊎ ((j ≡ length order) × (k ≡ x)) → i ≡ j
      once i j x (inl a) (inl b) = h.once i j x a b
      once i j x (inl a) (inr b) = absurd (fresh i (a ∙ ap Some (sym b.1)))
      once i j x (inr a) (inl b) = absurd (fresh j (b ∙ ap Some (sym a.1)))
      once i j x (inr a) (inr b) = a.0 ∙ sym b.0

      later : (i j a b : ℕ) (x y : Driver) → i ≤ j → (slice_get order i ≡ Some a) ⊎ ((i ≡ length order) × (k ≡ a)) → (slice_get order j ≡ Some b) ⊎ ((j ≡ length order) × (k ≡ b))
          → slice_get c.drivers a ≡ Some x → slice_get c.drivers b ≡ Some y → x.reads y.target ≡ false
      later i j a b x y le (inl before) (inl after) at_x at_y = h.later i j a b x y le before after at_x at_y
      later i j a b x y le (inl before) (inr here) at_x at_y =
          let old = h.placed i a before in
          let same : old.0 ≡ x = same_some old.0 x (sym old.1 ∙ at_x) in
          let target : d ≡ y = same_some d y (sym at ∙ ap (slice_get c.drivers) here.1 ∙ at_y) in
          false_unless (x.reads y.target) (λ reads.
          not_both (opened y.target) (ap (λ (z : Driver). opened z.target) (sym target) ∙ is_open) (old.3 y.target (ap (λ (z : Driver). z.reads y.target) same ∙ reads)))
      later i j a b x y le (inr here) (inl after) at_x at_y = absurd (omega (arith, le, here.0, slice_get_within order j b after))
      later i j a b x y le (inr here) (inr also) at_x at_y =
          let first : d ≡ x = same_some d x (sym at ∙ ap (slice_get c.drivers) here.1 ∙ at_x) in
          let second : d ≡ y = same_some d y (sym at ∙ ap (slice_get c.drivers) also.1 ∙ at_y) in
          false_unless (x.reads y.target) (λ reads.
          not_both (opened y.target) (ap (λ (z : Driver). opened z.target) (sym second) ∙ is_open) (ready y.target (ap (λ (z : Driver). z.reads y.target) first ∙ reads)))

  -- where nothing more can be placed, everything is
  all_closed : (level : ℕ → ℕ) → IsLevelled c level → (opened : ℕ → Bool) (order : List ℕ) → IsPlaced c opened order → IsStuck c opened
      → (bound : ℕ) (k : ℕ) (d : Driver) → slice_get c.drivers k ≡ Some d → level d.target < bound → opened d.target ≡ false
  all_closed level levelled opened order h stuck zero k d at lt = absurd (omega (arith, lt))
  all_closed level levelled opened order h stuck (suc bound) k d at lt =
      by (λ j e at_e less. all_closed level levelled opened order h stuck bound j e at_e less)
    where
      by : ((j : ℕ) (e : Driver) → slice_get c.drivers j ≡ Some e → level e.target < bound → opened e.target ≡ false) → opened d.target ≡ false
      by lower = false_unless (opened d.target) (λ is_open.
          let read = stuck k d at is_open in
          let driver = h.opens read.0 read.2 in
          not_both (opened (driver.1).target) (ap opened driver.3 ∙ read.2)
          (lower driver.0 driver.1 driver.2 (omega (arith, lt, levelled k d at read.0 read.1, ap level driver.3))))

  pub all_placed : HasNoLoop c → (opened : ℕ → Bool) (order : List ℕ) → IsPlaced c opened order → IsStuck c opened → IsEvaluationOrder c order
  all_placed (level, levelled) opened order h stuck = record {
    within = λ i d lt. let found = h.placed i (get_or order i d) (slice_get-get_or order i d lt) in slice_get_within c.drivers (get_or order i d) found.0 found.1;
    once = h.once;
    covers = λ k d at. h.covers k d at (all_closed level levelled opened order h stuck (suc (level d.target)) k d at (omega arith));
    later = h.later;
  }
