-- The levels, turn by turn.
use Rattle.std.proofs.Common.{◌≡◌, ℕ, zero, suc, ◌+◌, ◌<◌, ◌≤◌, Bool, true, false, ◌||◌, max, List, Some, length, get_or, set, slice_get, refl, sym, ap, ◌∙◌, arith, subst}
use Rattle.std.specs.Prelude.{◌==◌, replicate}
use Rattle.std.proofs.lemmas.Bool.{eqb-true, eqb-false, eq-eqb}
use Rattle.std.proofs.lemmas.List.{get_or-set_same, get_or-set_other, length-map}
use Rattle.std.proofs.lemmas.Option.{slice_get_within}
use Rattle.verilog_tree.specs.declared.tree.Module.{Module}
use Rattle.verilog_tree.specs.Tree.{Tree, Trees, Name, Bit, Part, Plain, Based, Cat, Not, Binary, Shift, Choice, none, more, Assignment, Design}
use Rattle.verilog_tree.specs.Names.{shapes_of}
use Rattle.verilog_tree.specs.View.{assignment_view, design_view}
use Rattle.verilog_tree.specs.Cycle.{reads, any_reads, circuit_of, driver_of, IsDrivenOnce}
use Rattle.settle_order.specs.Placing.{IsEvaluationOrder}
use Rattle.settle_order.proofs.Opened.{same_some}
use Rattle.settle_order.proofs.Turns.{driver_at}
use Rattle.wire_levels.specs.Levels.{greatest, greatest_of, level_in, HasLevels}

-- the same levels of the names that are read
abbrev Same : (ℕ → Bool) → (ℕ → ℕ) → (ℕ → ℕ) → Type 0
Same names v w = (n : ℕ) → names n ≡ true → v n ≡ w n

left : (a b : Bool) → a ≡ true → (a || b) ≡ true
left true b e = refl
left false b e = absurd (cc)

right : (a b : Bool) → b ≡ true → (a || b) ≡ true
right true b e = refl
right false b e = e

mutual
  depends : (v w : ℕ → ℕ) (e : Tree) → Same (reads e) v w → greatest v e ≡ greatest w e
  depends v w (Name n) same = same n (eq-eqb n n refl)
  depends v w (Bit n place) same = same n (eq-eqb n n refl)
  depends v w (Part n high low) same = same n (eq-eqb n n refl)
  depends v w (Plain x) same = refl
  depends v w (Based width signed bits) same = refl
  depends v w (Cat members) same = all_depend v w members same
  depends v w (Not a) same = depends v w a same
  depends v w (Binary op a b) same =
      ap (λ (x : ℕ). max x (greatest v b)) (depends v w a (λ n r. same n (left (reads a n) (reads b n) r)))
      ∙ ap (max (greatest w a)) (depends v w b (λ n r. same n (right (reads a n) (reads b n) r)))
  depends v w (Shift op a amount) same = depends v w a same
  depends v w (Choice c a b) same =
      ap (λ (x : ℕ). max x (max (greatest v a) (greatest v b))) (depends v w c (λ n r. same n (left (reads c n) (reads a n || reads b n) r)))
      ∙ ap (λ (x : ℕ). max (greatest w c) (max x (greatest v b))) (depends v w a (λ n r. same n (right (reads c n) (reads a n || reads b n) (left (reads a n) (reads b n) r))))
      ∙ ap (λ (x : ℕ). max (greatest w c) (max (greatest w a) x)) (depends v w b (λ n r. same n (right (reads c n) (reads a n || reads b n) (right (reads a n) (reads b n) r))))

  all_depend : (v w : ℕ → ℕ) (es : Trees) → Same (any_reads es) v w → greatest_of v es ≡ greatest_of w es
  all_depend v w none same = refl
  all_depend v w (more first rest) same =
      ap (λ (x : ℕ). max x (greatest_of v rest)) (depends v w first (λ n r. same n (left (reads first n) (any_reads rest n) r)))
      ∙ ap (max (greatest w first)) (all_depend v w rest (λ n r. same n (right (reads first n) (any_reads rest n) r)))

max_below : (a b k : ℕ) → a ≤ k → b ≤ k → max a b ≤ k
max_below a b k f g = omega (arith, f, g)

mutual
  pub greatest_below : (v : ℕ → ℕ) (k : ℕ) → ((n : ℕ) → v n ≤ k) → (e : Tree) → greatest v e ≤ k
  greatest_below v k below (Name n) = below n
  greatest_below v k below (Bit n place) = below n
  greatest_below v k below (Part n high low) = below n
  greatest_below v k below (Plain x) = omega arith
  greatest_below v k below (Based width signed bits) = omega arith
  greatest_below v k below (Cat members) = all_below v k below members
  greatest_below v k below (Not a) = greatest_below v k below a
  greatest_below v k below (Binary op a b) = max_below _ _ k (greatest_below v k below a) (greatest_below v k below b)
  greatest_below v k below (Shift op a amount) = greatest_below v k below a
  greatest_below v k below (Choice c a b) = max_below _ _ k (greatest_below v k below c) (max_below _ _ k (greatest_below v k below a) (greatest_below v k below b))

  all_below : (v : ℕ → ℕ) (k : ℕ) → ((n : ℕ) → v n ≤ k) → (es : Trees) → greatest_of v es ≤ k
  all_below v k below none = omega arith
  all_below v k below (more first rest) = max_below _ _ k (greatest_below v k below first) (all_below v k below rest)

-- ---- a turn

-- the wires of the first assignments of the order have their levels
pub record IsLevelledTo (d : Design) (order : List ℕ) (place : ℕ) (levels : List ℕ) : Type 0 where
  pub small : (n : ℕ) → level_in levels n ≤ place
  pub source : (n : ℕ) → ((k : ℕ) (a : Assignment) → slice_get d.assigns k ≡ Some a → a.target ≡ n → ⊥) → level_in levels n ≡ 0
  pub wire : (i k : ℕ) (a : Assignment) → i < place → slice_get order i ≡ Some k → slice_get d.assigns k ≡ Some a → level_in levels a.target ≡ greatest (level_in levels) a.value + 1

module _ (d : Design) (once : IsDrivenOnce d) (order : List ℕ) (is_order : IsEvaluationOrder (circuit_of d) order) where
  pub none_levelled : (levels : List ℕ) → ((n : ℕ) → level_in levels n ≡ 0) → IsLevelledTo d order 0 levels
  none_levelled levels zero_each = record { small = λ n. omega (arith, zero_each n); source = λ n alone. zero_each n; wire = λ i k a lt. absurd (omega (arith, lt)) }

  module _ (place k : ℕ) (a : Assignment) (levels : List ℕ) (here : slice_get order place ≡ Some k) (at : slice_get d.assigns k ≡ Some a) (inside : a.target < length levels) (h : IsLevelledTo d order place levels) where
    abbrev level : ℕ
    level = greatest (level_in levels) a.value + 1

    abbrev next : List ℕ
    next = set levels a.target level

    here_set : level_in next a.target ≡ level
    here_set = get_or-set_same levels a.target level 0 inside

    other_set : (n : ℕ) → (n ≡ a.target → ⊥) → level_in next n ≡ level_in levels n
    other_set n apart = get_or-set_other levels a.target n level 0 apart

    -- an assignment at this place or before doesn't read the target
    unread : (i j : ℕ) (b : Assignment) → i < place + 1 → slice_get order i ≡ Some j → slice_get d.assigns j ≡ Some b → greatest (level_in next) b.value ≡ greatest (level_in levels) b.value
    unread i j b lt found at_b = depends (level_in next) (level_in levels) b.value (λ n read. other_set n (λ same. apart (never n same read)))
      where
        apart : false ≡ true → ⊥
        apart e = cc

        never : (n : ℕ) → n ≡ a.target → reads b.value n ≡ true → false ≡ true
        never n same read =
            sym (is_order.later i place j k (driver_of (shapes_of d) b) (driver_of (shapes_of d) a) (omega (arith, lt)) found here (driver_at d j b at_b) (driver_at d k a at))
            ∙ ap (reads b.value) (sym same) ∙ read

    pub levelled_more : IsLevelledTo d order (place + 1) next
    levelled_more = record {
      small = λ n. small n (n == a.target) refl;
      source = λ n alone. other_set n (λ same. alone k a at (sym same)) ∙ h.source n alone;
      wire = λ i j b lt found at_b. wire i j b lt found at_b (b.target == a.target) refl;
    }
      where
        small : (n : ℕ) (t : Bool) → (n == a.target) ≡ t → level_in next n ≤ place + 1
        small n true e = let is = ap (level_in next) (eqb-true n a.target e) ∙ here_set in omega (arith, is, greatest_below (level_in levels) place h.small a.value)
        small n false e = omega (arith, other_set n (eqb-false n a.target e), h.small n)

        wire : (i j : ℕ) (b : Assignment) → i < place + 1 → slice_get order i ≡ Some j → slice_get d.assigns j ≡ Some b → (t : Bool) → (b.target == a.target) ≡ t
            → level_in next b.target ≡ greatest (level_in next) b.value + 1
        wire i j b lt found at_b true e =
            let places : j ≡ k = once.one_assign j k b a at_b at (eqb-true b.target a.target e) in
            let same : a ≡ b = same_some a b (sym at ∙ ap (slice_get d.assigns) (sym places) ∙ at_b) in
            ap (level_in next) (eqb-true b.target a.target e) ∙ here_set ∙ ap (λ (x : Assignment). greatest (level_in levels) x.value + 1) same
            ∙ ap (λ (x : ℕ). x + 1) (sym (unread i j b lt found at_b))
        wire i j b lt found at_b false e =
            other_set b.target (eqb-false b.target a.target e) ∙ h.wire i j b (earlier (λ same. eqb-false b.target a.target e (ap (λ (x : Assignment). x.target) (same_assign same)))) found at_b
            ∙ ap (λ (x : ℕ). x + 1) (sym (unread i j b lt found at_b))
          where
            same_assign : i ≡ place → b ≡ a
            same_assign same =
                let places : j ≡ k = same_some j k (sym found ∙ ap (slice_get order) same ∙ here) in
                same_some b a (sym at_b ∙ ap (slice_get d.assigns) places ∙ at)

            earlier : (i ≡ place → ⊥) → i < place
            earlier not_last = omega (arith, lt, not_last)

  pub all_levelled : (place : ℕ) (levels : List ℕ) → length order ≤ place → IsLevelledTo d order place levels → HasLevels d (level_in levels)
  all_levelled place levels le h = record {
    source = h.source;
    wire = λ k a at. let found = is_order.covers k (driver_of (shapes_of d) a) (driver_at d k a at) in h.wire found.0 k a (omega (arith, le, slice_get_within order found.0 k found.1)) found.1 at;
  }

-- the assignment that a loop reads at a place of the order
pub ordered_at : (m : Module) (order : List ℕ) → IsEvaluationOrder (circuit_of (design_view m)) order → (place : ℕ) → place < length order → get_or order place 0 < length m.assigns.items
ordered_at m order is_order place lt =
    subst (λ (n : ℕ). get_or order place 0 < n) (length-map (design_view m).assigns (driver_of (shapes_of (design_view m))) ∙ length-map m.assigns.items assignment_view) (is_order.within place 0 lt)

pub zeros : (count n : ℕ) → level_in (replicate count 0) n ≡ 0
zeros zero n = refl
zeros (suc count) zero = refl
zeros (suc count) (suc n) = zeros count n
