-- The loops that find an evaluation order, turn by turn.
use Rattle.std.proofs.Common.{◌≡◌, ℕ, ◌+◌, ◌<◌, ◌≤◌, Bool, true, false, List, [], ◌∷◌, ◌++◌, Some, length, map, get_or, set, ◌⊎◌, inl, inr, slice_get, refl, sym, ap, ◌∙◌, arith, subst}
use Rattle.std.specs.Prelude.{◌==◌, if◌then◌else◌, All}
use Rattle.std.proofs.lemmas.Bool.{eqb-true, eqb-false}
use Rattle.std.proofs.lemmas.List.{length-set}
use Rattle.std.proofs.lemmas.Option.{slice_get-map, slice_get-get_or, slice_get_read, slice_get_within}
use Rattle.std.specs.Option.{option_map}
use Rattle.verilog_tree.specs.declared.tree.Assign.{Assign}
use Rattle.verilog_tree.specs.Tree.{Assignment, Design}
use Rattle.verilog_tree.specs.View.{assignment_view}
use Rattle.verilog_tree.specs.Names.{shapes_of}
use Rattle.verilog_tree.specs.Cycle.{reads}
use Rattle.verilog_tree.specs.Circuit.{Driver}
use Rattle.verilog_tree.specs.Cycle.{circuit_of, driver_of, IsDrivenOnce, IsLoopFree}
use Rattle.settle_order.specs.Placing.{IsEvaluationOrder, reads_open, opened_of, count_open, IsPlaced, IsStuck, AreAllOpen}
use Rattle.verilog_tree.proofs.OneSettling.{assign_at, circuit_sound, circuit_loop_free}
use Rattle.settle_order.proofs.Placing.{place_one, all_placed, not_both}
use Rattle.settle_order.proofs.Opened.{same_some, flags_set, flags_closed, open_within, fewer_open, reads_open_tells}

pub driver_at : (m : Design) (k : ℕ) (a : Assignment) → slice_get m.assigns k ≡ Some a → slice_get (circuit_of m).drivers k ≡ Some (driver_of (shapes_of m) a)
driver_at m k a at = slice_get-map (driver_of (shapes_of m)) m.assigns k ∙ ap (option_map (driver_of (shapes_of m))) at

before_last : (j k : ℕ) → j < k + 1 → (j ≡ k → ⊥) → j < k
before_last j k lt apart = omega (arith, lt, apart)

-- an assignment that a loop reads
pub viewed_at : (xs : List Assign) (k : ℕ) (a : Assign) → k < length xs → a ≡ get_or xs k a → slice_get (map assignment_view xs) k ≡ Some (assignment_view a)
viewed_at xs k a lt read = slice_get-map assignment_view xs k ∙ ap (option_map assignment_view) (slice_get_read xs (length xs) k a refl lt read)

pub target_below : (xs : List Assign) (k : ℕ) (a : Assign) (count : ℕ) → k < length xs → a ≡ get_or xs k a → All (λ (b : Assignment). b.target < count) (map assignment_view xs) → a.target < count
target_below xs k a count lt read all =
    let found = viewed_at xs k a lt read in
    let inside = slice_get_within (map assignment_view xs) k (assignment_view a) found in
    let same = same_some (get_or (map assignment_view xs) k (assignment_view a)) (assignment_view a) (sym (slice_get-get_or (map assignment_view xs) k (assignment_view a) inside) ∙ found) in
    subst (λ (b : Assignment). b.target < count) same (all k (assignment_view a) inside)

module _ (m : Design) where
  -- ---- the driven names

  pub record IsMarked (names : ℕ) (flags : List Bool) (index : ℕ) : Type 0 where
    pub count : length flags ≡ names
    pub wires : (k : ℕ) (a : Assignment) → k < index → slice_get m.assigns k ≡ Some a → opened_of flags a.target ≡ true
    pub opens : (n : ℕ) → opened_of flags n ≡ true → (k : ℕ) × (a : Assignment) × (slice_get m.assigns k ≡ Some a) × (a.target ≡ n)

  pub mark_turn : (names : ℕ) (flags : List Bool) (k : ℕ) (a : Assignment) → IsMarked names flags k → slice_get m.assigns k ≡ Some a → a.target < names
      → IsMarked names (set flags a.target true) (k + 1)
  mark_turn names flags k a h here within = record {
    count = length-set flags a.target true ∙ h.count;
    wires = λ j b less at. flags_set flags a.target true b.target in_flags ∙ wires j b less at (b.target == a.target) refl;
    opens = λ n is. opens n (n == a.target) refl (sym (flags_set flags a.target true n in_flags) ∙ is);
  }
    where
      in_flags : a.target < length flags
      in_flags = subst (λ (x : ℕ). a.target < x) (sym h.count) within

      wires : (j : ℕ) (b : Assignment) → j < k + 1 → slice_get m.assigns j ≡ Some b → (t : Bool) → (b.target == a.target) ≡ t → (if b.target == a.target then true else opened_of flags b.target) ≡ true
      wires j b less at t e = ap (λ (u : Bool). if u then true else opened_of flags b.target) e ∙ by t e
        where
          by : (t : Bool) → (b.target == a.target) ≡ t → (if t then true else opened_of flags b.target) ≡ true
          by true e = refl
          by false e = h.wires j b (before_last j k less (λ same.
              eqb-false _ _ e (ap (λ (x : Assignment). x.target) (same_some b a (sym at ∙ ap (slice_get m.assigns) same ∙ here))))) at

      opens : (n : ℕ) (t : Bool) → (n == a.target) ≡ t → (if n == a.target then true else opened_of flags n) ≡ true → (k : ℕ) × (a : Assignment) × (slice_get m.assigns k ≡ Some a) × (a.target ≡ n)
      opens n true e is = (k, a, here, sym (eqb-true n a.target e))
      opens n false e is = h.opens n (sym (ap (λ (u : Bool). if u then true else opened_of flags n) e) ∙ is)

  pub all_marked : (names : ℕ) (flags : List Bool) (index : ℕ) → IsMarked names flags index → length m.assigns ≤ index → AreAllOpen (circuit_of m) (opened_of flags)
  all_marked names flags index h le = record {
    wires = λ k d at.
        let a = assign_at m k d at in
        ap (λ (x : Driver). opened_of flags x.target) (sym a.2) ∙ h.wires k a.0 (omega (arith, le, slice_get_within m.assigns k a.0 a.1)) a.1;
    opens = λ n is.
        let found = h.opens n is in
        (found.0, driver_of (shapes_of m) found.1, driver_at m found.0 found.1 found.2, found.3);
  }

  pub none_placed : (opened : ℕ → Bool) → AreAllOpen (circuit_of m) opened → IsPlaced (circuit_of m) opened []
  none_placed opened h = record {
    placed = λ i k found. absurd (grind arith);
    covers = λ k d at is. absurd (not_both (opened d.target) (h.wires k d at) is);
    opens = h.opens;
    once = λ i j k found also. absurd (grind arith);
    later = λ i j a b d e le found also at_d at_e. absurd (grind arith);
  }

  -- ---- one pass over the assignments

  pub record IsTurn (initial flags : List Bool) (order : List ℕ) (progress : Bool) (place : ℕ) : Type 0 where
    pub placed : IsPlaced (circuit_of m) (opened_of flags) order
    pub fewer : count_open flags + (if progress then 1 else 0) ≤ count_open initial
    pub stuck : progress ≡ false → (k : ℕ) (a : Assignment) → k < place → slice_get m.assigns k ≡ Some a → opened_of flags a.target ≡ true
        → (n : ℕ) × (reads a.value n ≡ true) × (opened_of flags n ≡ true)

  pub turn_places : IsDrivenOnce m → (initial flags : List Bool) (order : List ℕ) (progress : Bool) (place : ℕ) (a : Assignment) → IsTurn initial flags order progress place
      → slice_get m.assigns place ≡ Some a → opened_of flags a.target ≡ true → reads_open (opened_of flags) a.value ≡ false
      → IsTurn initial (set flags a.target false) (order ++ place ∷ []) true (place + 1)
  turn_places once initial flags order progress place a h here is_open ready = record {
    placed = subst (λ (o : ℕ → Bool). IsPlaced (circuit_of m) o (order ++ place ∷ [])) (sym (flags_closed flags a.target (open_within flags a.target is_open)))
        (place_one (circuit_of m) (circuit_sound m once) (opened_of flags) order place (driver_of (shapes_of m) a) h.placed (driver_at m place a here) is_open
        ((reads_open_tells (opened_of flags) a.value).none ready));
    fewer = fewer progress h.fewer;
    stuck = λ none. absurd (grind arith);
  }
    where
      fewer : (b : Bool) → count_open flags + (if b then 1 else 0) ≤ count_open initial → count_open (set flags a.target false) + 1 ≤ count_open initial
      fewer true le = omega (arith, le, fewer_open flags a.target is_open)
      fewer false le = omega (arith, le, fewer_open flags a.target is_open)

  pub turn_skips : (initial flags : List Bool) (order : List ℕ) (progress : Bool) (place : ℕ) (a : Assignment) → IsTurn initial flags order progress place
      → slice_get m.assigns place ≡ Some a → (opened_of flags a.target ≡ false) ⊎ (reads_open (opened_of flags) a.value ≡ true)
      → IsTurn initial flags order progress (place + 1)
  turn_skips initial flags order progress place a h here skip = record {
    placed = h.placed;
    fewer = h.fewer;
    stuck = λ none k b less at is_open. stuck none k b less at is_open (k == place) refl;
  }
    where
      stuck : progress ≡ false → (k : ℕ) (b : Assignment) → k < place + 1 → slice_get m.assigns k ≡ Some b → opened_of flags b.target ≡ true → (t : Bool) → (k == place) ≡ t
          → (n : ℕ) × (reads b.value n ≡ true) × (opened_of flags n ≡ true)
      stuck none k b less at is_open false e = h.stuck none k b (before_last k place less (eqb-false k place e)) at is_open
      stuck none k b less at is_open true e = by skip
        where
          same : a ≡ b
          same = same_some a b (sym here ∙ ap (slice_get m.assigns) (sym (eqb-true k place e)) ∙ at)

          by : (opened_of flags a.target ≡ false) ⊎ (reads_open (opened_of flags) a.value ≡ true) → (n : ℕ) × (reads b.value n ≡ true) × (opened_of flags n ≡ true)
          by (inl shut) = absurd (not_both (opened_of flags b.target) is_open (ap (λ (x : Assignment). opened_of flags x.target) (sym same) ∙ shut))
          by (inr waits) =
              let found = (reads_open_tells (opened_of flags) a.value).some waits in
              (found.0, ap (λ (x : Assignment). reads x.value found.0) (sym same) ∙ found.1, found.2)

  pub turns_done : (initial flags : List Bool) (order : List ℕ) (progress : Bool) (place : ℕ) → IsTurn initial flags order progress place → length m.assigns ≤ place
      → progress ≡ false → IsStuck (circuit_of m) (opened_of flags)
  turns_done initial flags order progress place h le none k d at is_open =
      let a = assign_at m k d at in
      let found = h.stuck none k a.0 (omega (arith, le, slice_get_within m.assigns k a.0 a.1)) a.1 (ap (λ (x : Driver). opened_of flags x.target) a.2 ∙ is_open) in
      (found.0, ap (λ (x : Driver). x.reads found.0) (sym a.2) ∙ found.1, found.2)

  pub found_order : IsDrivenOnce m → IsLoopFree m → (opened : ℕ → Bool) (order : List ℕ) → IsPlaced (circuit_of m) opened order → IsStuck (circuit_of m) opened
      → IsEvaluationOrder (circuit_of m) order
  found_order once free = all_placed (circuit_of m) (circuit_sound m once) (circuit_loop_free m free)

  pub turn_moved : (initial f g : List Bool) (o q : List ℕ) (p r : Bool) (place : ℕ) → IsTurn initial f o p place → g ≡ f → q ≡ o → r ≡ p → IsTurn initial g q r place
  turn_moved initial f g o q p r place h flags orders progress =
      subst (λ (x : List Bool). IsTurn initial x q r place) (sym flags) (subst (λ (x : List ℕ). IsTurn initial f x r place) (sym orders) (subst (λ (x : Bool). IsTurn initial f o x place) (sym progress) h))
