-- One turn: an assignment is drawn and evaluated, and those that waited for nothing else may come next.
use Rattle.std.proofs.Common.{◌≡◌, ℕ, zero, suc, ◌+◌, ◌-◌, ◌<◌, ◌≤◌, ◌%◌, Bool, true, false, not, ◌&&◌, List, [], ◌∷◌, ◌++◌, length, get_or, set, ◌⊎◌, inl, inr, refl, sym, ap, ◌∙◌, arith, subst, add-one, length-append}
use Rattle.std.specs.Prelude.{◌==◌, if◌then◌else◌}
use Rattle.std.proofs.Math.Nat.{mod-lt}
use Rattle.std.proofs.lemmas.List.{get_or_push}
use Rattle.std.proofs.lemmas.Bool.{eqb-true, eqb-false, eq-eqb}
use Rattle.draws.specs.Draw.{drawn}
use Rattle.verilog_tree.specs.Circuit.{Circuit}
use Rattle.settle_order.specs.Placing.{opened_of}
use Rattle.settle_order.proofs.Opened.{flags_set}
use Rattle.event_order.specs.Order.{Moment}
use Rattle.event_order.specs.Drawn.{state_after, how_many, place_of, drawn_place, drawn_places, is_taken, reads_wire, open_reads, evaluations}
use Rattle.event_order.proofs.Counting.{count-same, count-one, count-none, count-all, place-same}
use Rattle.event_order.proofs.DrawnPlaces.{taken-new, taken-other, taken-either, Proceeds, drawn_next, left_after, some_may, all_taken}
use Rattle.event_order.proofs.DrawnSteps.{Evaluated}
use Rattle.order_sim.specs.Drawing.{reading_places, times, AreFlagged, AreUndone, AreCountedDown, IsDrawing}
use Rattle.order_sim.proofs.Reading.{times-past, times-within, open-turn}

and_true : (a b : Bool) → (a && b) ≡ true → (a ≡ true) × (b ≡ true)
and_true true b is = (refl, is)
and_true false b is = absurd (grind arith)

not_true : (b : Bool) → not b ≡ true → b ≡ false
not_true true is = absurd (grind arith)
not_true false is = refl

clash : {A : Type 0} (b : Bool) → b ≡ true → b ≡ false → A
clash true t f = absurd (grind arith)
clash false t f = absurd (grind arith)

nothing_left : (a b : Bool) → a ≡ true → (a && not b) ≡ false → b ≡ true
nothing_left true true is fails = refl
nothing_left true false is fails = absurd (grind arith)
nothing_left false b is fails = absurd (grind arith)

below_or_not : (k n : ℕ) → (k < n) ⊎ (n ≤ k)
below_or_not k zero = inr (omega arith)
below_or_not zero (suc n) = inl (omega arith)
below_or_not (suc k) (suc n) = by (below_or_not k n)
  where
    by : (k < n) ⊎ (n ≤ k) → (suc k < suc n) ⊎ (suc n ≤ suc k)
    by (inl lt) = inl (omega (arith, lt))
    by (inr le) = inr (omega (arith, le))

-- what may come next, by its tests
pub record MayCome (c : Circuit) (taken : List ℕ) (p : ℕ) : Type 0 where
  pub inside : p < length c.drivers
  pub untaken : is_taken taken p ≡ false
  pub closed : open_reads c taken p ≡ 0

module _ (c : Circuit) (taken waiting : List ℕ) (flags : List Bool) (count : ℕ) (h : IsDrawing c taken waiting flags count) where
  flag_is : (k : ℕ) → k < length c.drivers → opened_of flags k ≡ (evaluations c).may taken k
  flag_is k lt =
      let inside = h.waiting_many in
      h.flagged.flags_are k (omega (arith, inside, lt)) ∙ ap (λ (x : ℕ). not (is_taken taken k) && x == 0) (h.waits k lt)

  count_is : count ≡ how_many ((evaluations c).may taken) (length c.drivers)
  count_is = h.flagged.counted ∙ ap (how_many (opened_of flags)) h.waiting_many ∙ count-same (opened_of flags) ((evaluations c).may taken) (length c.drivers) flag_is

  -- the drawn flag is that of the drawn place
  pub nth_is : (state : ℕ) → place_of (opened_of flags) (length flags) (drawn state % count) ≡ drawn_place (evaluations c) taken state
  nth_is state =
      ap (λ (n : ℕ). place_of (opened_of flags) n (drawn state % count)) h.flags_many
      ∙ ap (λ (n : ℕ). place_of (opened_of flags) (length c.drivers) (drawn state % n)) count_is
      ∙ place-same (opened_of flags) ((evaluations c).may taken) (length c.drivers) (drawn state % how_many ((evaluations c).may taken) (length c.drivers)) flag_is

  pub nth_there : (number : ℕ) → 0 < count → number % count < how_many (opened_of flags) (length flags)
  nth_there number some =
      let less = mod-lt number some in
      let same = h.flagged.counted ∙ ap (how_many (opened_of flags)) (h.waiting_many ∙ sym h.flags_many) in
      omega (arith, less, same)

  module _ (p : ℕ) (may : MayCome c taken p) where
    flag_there : p < length flags
    flag_there = let many = h.flags_many in let lt = may.inside in omega (arith, many, lt)

    pub flagged_without : AreFlagged (is_taken (taken ++ p ∷ [])) waiting (set flags p false) (count - 1)
    flagged_without = record {
      flags_are = λ k lt. flags_set flags p false k flag_there ∙ by k lt (k == p) refl;
      counted = let less = fewer in let all = h.flagged.counted in omega (arith, less, all);
    }
      where
        by : (k : ℕ) → k < length waiting → (b : Bool) → (k == p) ≡ b → (if b then false else opened_of flags k) ≡ (not (is_taken (taken ++ p ∷ []) k) && get_or waiting k 0 == 0)
        by k lt true e = sym (ap (λ (t : Bool). not t && get_or waiting k 0 == 0) (ap (is_taken (taken ++ p ∷ [])) (eqb-true k p e) ∙ taken-new taken p))
        by k lt false e = h.flagged.flags_are k lt ∙ sym (ap (λ (t : Bool). not t && get_or waiting k 0 == 0) (taken-other taken p k (eqb-false k p e)))

        apart : (k : ℕ) → (k ≡ p → ⊥) → (k == p) ≡ false
        apart k other = either (k == p) refl
          where
            either : (b : Bool) → (k == p) ≡ b → (k == p) ≡ false
            either true e = absurd (other (eqb-true k p e))
            either false e = e

        fewer : how_many (opened_of (set flags p false)) (length waiting) + 1 ≡ how_many (opened_of flags) (length waiting)
        fewer =
            count-one (opened_of (set flags p false)) (opened_of flags) (length waiting) p (let many = h.waiting_many in let lt = may.inside in omega (arith, many, lt))
            (flags_set flags p false p flag_there ∙ ap (λ (b : Bool). if b then false else opened_of flags p) (eq-eqb p p refl))
            (flag_is p may.inside ∙ ap (λ (b : Bool). not b && open_reads c taken p == 0) may.untaken ∙ eq-eqb (open_reads c taken p) 0 may.closed)
            (λ k below other. flags_set flags p false k flag_there ∙ ap (λ (b : Bool). if b then false else opened_of flags k) (apart k other))

    -- each that reads the wire waits for it
    pub enough : (k : ℕ) → times (reading_places c p (length c.drivers)) k ≤ get_or waiting k 0
    enough k = by (below_or_not k (length c.drivers))
      where
        by : (k < length c.drivers) ⊎ (length c.drivers ≤ k) → times (reading_places c p (length c.drivers)) k ≤ get_or waiting k 0
        by (inl lt) =
            let once = times-within c p (length c.drivers) k lt in
            let turn = open-turn c taken p k may.inside may.untaken in
            let waits = h.waits k lt in
            omega (arith, once, turn, waits)
        by (inr le) = let none = times-past c p (length c.drivers) k le in omega (arith, none)

    -- none that reads the wire was evaluated
    pub readers_undone : (m : Moment) → Evaluated c taken m → AreUndone (is_taken (taken ++ p ∷ [])) (reading_places c p (length c.drivers))
    readers_undone m so_far = record { each = λ k some. by k (below_or_not k (length c.drivers)) some }
      where
        reads : (k : ℕ) (b : Bool) → reads_wire c k p ≡ b → 0 < (if b then 1 else 0) → reads_wire c k p ≡ true
        reads k true is some = is
        reads k false is some = absurd (omega (arith, some))

        open_self : is_taken taken p ≡ true → ⊥
        open_self is = clash (is_taken taken p) is may.untaken

        undone : (k : ℕ) → reads_wire c k p ≡ true → (b : Bool) → is_taken (taken ++ p ∷ []) k ≡ b → is_taken (taken ++ p ∷ []) k ≡ false
        undone k is false e = e
        undone k is true e = absurd (side (taken-either taken p k e))
          where
            side : (is_taken taken k ≡ true) ⊎ (k ≡ p) → ⊥
            side (inl before) = open_self (so_far.closed k p before may.inside is)
            side (inr same) =
                open_self (nothing_left (reads_wire c p p) (is_taken taken p) (ap (λ (j : ℕ). reads_wire c j p) (sym same) ∙ is)
                (count-none (λ j. reads_wire c p j && not (is_taken taken j)) (length c.drivers) may.closed p may.inside))

        by : (k : ℕ) → (k < length c.drivers) ⊎ (length c.drivers ≤ k) → 0 < times (reading_places c p (length c.drivers)) k → is_taken (taken ++ p ∷ []) k ≡ false
        by k (inl lt) some = undone k (reads k (reads_wire c k p) refl (let once = times-within c p (length c.drivers) k lt in omega (arith, once, some))) (is_taken (taken ++ p ∷ []) k) refl
        by k (inr le) some = absurd (let none = times-past c p (length c.drivers) k le in omega (arith, none, some))

    pub drawing_more : (waiting_after : List ℕ) (flags_after : List Bool) (count_after : ℕ) → length waiting_after ≡ length c.drivers → length flags_after ≡ length c.drivers
        → AreCountedDown (reading_places c p (length c.drivers)) waiting waiting_after → AreFlagged (is_taken (taken ++ p ∷ [])) waiting_after flags_after count_after
        → IsDrawing c (taken ++ p ∷ []) waiting_after flags_after count_after
    drawing_more waiting_after flags_after count_after many flags_many down flagged = record {
      waiting_many = many;
      flags_many = flags_many;
      waits = λ k lt.
          let once = times-within c p (length c.drivers) k lt in
          let turn = open-turn c taken p k may.inside may.untaken in
          let waits = h.waits k lt in
          let less = down.each k in
          omega (arith, once, turn, waits, less);
      flagged = flagged;
    }

-- ---- the turns

module _ (c : Circuit) (proceeds : Proceeds (evaluations c) (λ k. true)) where
  all_due : how_many (λ k. true) (length c.drivers) ≡ length c.drivers
  all_due = count-all (λ k. true) (length c.drivers) (λ k lt. refl)

  pub drawn_may : (state draws : ℕ) → draws < length c.drivers
      → MayCome c (drawn_places (evaluations c) state draws) (drawn_place (evaluations c) (drawn_places (evaluations c) state draws) (state_after state draws))
  drawn_may state draws lt =
      let taken = drawn_places (evaluations c) state draws in
      let p = drawn_place (evaluations c) taken (state_after state draws) in
      let all = all_due in
      let found = drawn_next (evaluations c) (λ k. true) proceeds state draws (omega (arith, lt, all)) in
      let parts = and_true (not (is_taken taken p)) (open_reads c taken p == 0) found.passes in
      record { inside = found.inside; untaken = not_true (is_taken taken p) parts.0; closed = eqb-true (open_reads c taken p) 0 parts.1 }

  pub some_ready : (state draws : ℕ) (waiting : List ℕ) (flags : List Bool) (count : ℕ) → draws < length c.drivers → IsDrawing c (drawn_places (evaluations c) state draws) waiting flags count → 0 < count
  some_ready state draws waiting flags count lt h =
      let taken = drawn_places (evaluations c) state draws in
      let all = all_due in
      let left = left_after (evaluations c) (λ k. true) proceeds state draws (omega (arith, lt, all)) in
      let some = some_may (evaluations c) (λ k. true) proceeds taken (omega (arith, lt, all, left)) in
      let same = count_is c taken waiting flags count h in
      omega (arith, some, same)

  pub all_drawn : (state k : ℕ) → k < length c.drivers → is_taken (drawn_places (evaluations c) state (length c.drivers)) k ≡ true
  all_drawn state k lt = ap (λ (n : ℕ). is_taken (drawn_places (evaluations c) state n) k) (sym all_due) ∙ all_taken (evaluations c) (λ k. true) proceeds state k lt refl

pub drawing_first : (c : Circuit) (reads waiting : List ℕ) (flags : List Bool) (count : ℕ) → length reads ≡ length c.drivers → ((k : ℕ) → k < length c.drivers → get_or reads k 0 ≡ open_reads c [] k)
    → waiting ≡ reads → length flags ≡ length waiting → ((k : ℕ) → k < length waiting → opened_of flags k ≡ (get_or waiting k 0 == 0)) → count ≡ how_many (opened_of flags) (length waiting)
    → IsDrawing c [] waiting flags count
drawing_first c reads waiting flags count many counts same flags_many set counted = record {
  waiting_many = ap length same ∙ many;
  flags_many = flags_many ∙ ap length same ∙ many;
  waits = λ k lt. ap (λ (xs : List ℕ). get_or xs k 0) same ∙ counts k lt;
  flagged = record { flags_are = set; counted = counted };
}

-- so many were drawn
pub drawn_many : (c : Circuit) (state draws : ℕ) → length (drawn_places (evaluations c) state draws) ≡ draws
drawn_many c state zero = refl
drawn_many c state (suc draws) = simp length-append (let before = drawn_many c state draws in omega (arith, before))

-- what is drawn at a turn
pub record IsTurn (c : Circuit) (state draws last : ℕ) : Type 0 where
  pub is_drawn : last ≡ drawn_place (evaluations c) (drawn_places (evaluations c) state draws) (state_after state draws)
  pub may : MayCome c (drawn_places (evaluations c) state draws) last

pub turn_drawn : (c : Circuit) → Proceeds (evaluations c) (λ k. true) → (state draws now number last : ℕ) (waiting : List ℕ) (flags : List Bool) (count : ℕ) → draws < length c.drivers
    → IsDrawing c (drawn_places (evaluations c) state draws) waiting flags count → now ≡ state_after state draws → number ≡ drawn now
    → last ≡ place_of (opened_of flags) (length flags) (number % count) → IsTurn c state draws last
turn_drawn c proceeds state draws now number last waiting flags count lt h at is found =
    let taken = drawn_places (evaluations c) state draws in
    let same = found ∙ ap (λ (x : ℕ). place_of (opened_of flags) (length flags) (x % count)) (is ∙ ap drawn at) ∙ nth_is c taken waiting flags count h (state_after state draws) in
    record { is_drawn = same; may = let P : ℕ → Type 0 = MayCome c taken in subst P (sym same) (drawn_may c proceeds state draws lt) }

-- the places that were taken after this turn
pub taken_next : (c : Circuit) (state draws last : ℕ) → IsTurn c state draws last → drawn_places (evaluations c) state draws ++ last ∷ [] ≡ drawn_places (evaluations c) state (draws + 1)
taken_next c state draws last turn =
    ap (λ (p : ℕ). drawn_places (evaluations c) state draws ++ p ∷ []) turn.is_drawn ∙ ap (drawn_places (evaluations c) state) (sym (add-one draws))

pub last_next : (c : Circuit) (state draws last : ℕ) → IsTurn c state draws last → last ≡ get_or (drawn_places (evaluations c) state (draws + 1)) (draws + 1 - 1) 0
last_next c state draws last turn =
    let taken = drawn_places (evaluations c) state draws in
    let many = drawn_many c state draws in
    let index : length taken ≡ draws + 1 - 1 = omega (arith, many) in
    sym (get_or_push taken last 0 (draws + 1 - 1) index) ∙ ap (λ (xs : List ℕ). get_or xs (draws + 1 - 1) 0) (taken_next c state draws last turn)
