-- Flags that are counted, and places that are counted down.
use Rattle.std.proofs.Common.{◌≡◌, ℕ, zero, suc, ◌+◌, ◌-◌, ◌<◌, ◌≤◌, Bool, true, false, not, ◌&&◌, List, [], ◌∷◌, length, get_or, set, drop, replicate, refl, sym, ap, ◌∙◌, arith, add-one}
use Rattle.std.specs.Prelude.{◌==◌, if◌then◌else◌}
use Rattle.std.proofs.lemmas.Bool.{eqb-true, eqb-false, eq-eqb, ne_eqb}
use Rattle.std.proofs.lemmas.List.{get_or-set_same, get_or-set_other, length-set}
use Rattle.settle_order.specs.Placing.{opened_of}
use Rattle.settle_order.proofs.Opened.{flags_set}
use Rattle.event_order.specs.Drawn.{how_many, place_of}
use Rattle.event_order.proofs.Counting.{count_step, count-same, count-one, place-only, HasNumber}
use Rattle.order_sim.specs.Drawing.{times, AreFlagged, AreUndone}

abbrev num : Bool → ℕ
num b = if b then 1 else 0

-- ---- the flag of a number

pub nth_found : (flags : List Bool) (left place number : ℕ) → place < length flags → opened_of flags place ≡ true → left ≡ 0 → left + how_many (opened_of flags) place ≡ number
    → place ≡ place_of (opened_of flags) (length flags) number
nth_found flags left place number lt is none sum =
    let has : HasNumber (opened_of flags) (length flags) number place = record { inside = lt; passes = is; number_is = omega (arith, none, sum) } in
    sym (place-only (opened_of flags) (length flags) number place has)

-- ---- flags that are set one after the other

pub count_next : (t : ℕ → Bool) (place count after : ℕ) (b : Bool) → t place ≡ b → after ≡ count + (if b then 1 else 0) → count ≡ how_many t place → after ≡ how_many t (place + 1)
count_next t place count after b is more so_far =
    let step = count_step t place b is in
    let next = ap (how_many t) (add-one place) in
    omega (arith, step, next, more, so_far)

module _ (flags : List Bool) (place : ℕ) (b : Bool) (lt : place < length flags) where
  here : opened_of (set flags place b) place ≡ b
  here = flags_set flags place b place lt ∙ ap (λ (t : Bool). if t then b else opened_of flags place) (eq-eqb place place refl)

  other : (k : ℕ) → (k ≡ place → ⊥) → opened_of (set flags place b) k ≡ opened_of flags k
  other k apart = flags_set flags place b k lt ∙ ap (λ (t : Bool). if t then b else opened_of flags k) (ne_eqb k place apart)

  pub counted_before : (count : ℕ) → count ≡ how_many (opened_of flags) place → count ≡ how_many (opened_of (set flags place b)) place
  counted_before count is = is ∙ sym (count-same (opened_of (set flags place b)) (opened_of flags) place (λ k below. other k (λ same. omega (arith, below, same))))

  pub set_more : (test : ℕ → Bool) → b ≡ test place → ((k : ℕ) → k < place → opened_of flags k ≡ test k) → (k : ℕ) → k < place + 1 → opened_of (set flags place b) k ≡ test k
  set_more test is before k below = by (k == place) refl
    where
      by : (t : Bool) → (k == place) ≡ t → opened_of (set flags place b) k ≡ test k
      by true e = ap (opened_of (set flags place b)) (eqb-true k place e) ∙ here ∙ is ∙ sym (ap test (eqb-true k place e))
      by false e = let apart = eqb-false k place e in other k apart ∙ before k (omega (arith, below, apart))

-- ---- counting down

pub within : (xs : List ℕ) (k : ℕ) → 0 < get_or xs k 0 → k < length xs
within [] k some = absurd (omega (arith, some))
within (x ∷ xs) zero some = omega arith
within (x ∷ xs) (suc k) some = let rest = within xs k some in omega (arith, rest)

drop_suc : (xs : List ℕ) (i : ℕ) → i < length xs → drop i xs ≡ get_or xs i 0 ∷ drop (suc i) xs
drop_suc [] i lt = absurd (omega (arith, lt))
drop_suc (x ∷ xs) zero lt = refl
drop_suc (x ∷ xs) (suc i) lt = drop_suc xs i (omega (arith, lt))

pub times-next : (xs : List ℕ) (i k : ℕ) → i < length xs → times (drop i xs) k ≡ (if get_or xs i 0 == k then 1 else 0) + times (drop (i + 1) xs) k
times-next xs i k lt = ap (λ (ys : List ℕ). times ys k) (drop_suc xs i lt) ∙ ap (λ (j : ℕ). num (get_or xs i 0 == k) + times (drop j xs) k) (sym (add-one i))

times-all : (xs : List ℕ) (i k : ℕ) → times (drop i xs) k ≤ times xs k
times-all xs zero k = omega arith
times-all [] (suc i) k = omega arith
times-all (x ∷ xs) (suc i) k = let rest = times-all xs i k in omega (arith, rest)

pub times-none : (xs : List ℕ) (i k : ℕ) → length xs ≤ i → times (drop i xs) k ≡ 0
times-none [] zero k le = refl
times-none [] (suc i) k le = refl
times-none (x ∷ xs) zero k le = absurd (omega (arith, le))
times-none (x ∷ xs) (suc i) k le = times-none xs i k (omega (arith, le))

module _ (places waiting : List ℕ) (i : ℕ) (lt : i < length places) (enough : (k : ℕ) → times (drop i places) k ≤ get_or waiting k 0) where
  abbrev R : ℕ
  R = get_or places i 0

  pub place_waits : 0 < get_or waiting R 0
  place_waits =
      let e = times-next places i R lt in
      let f = ap num (eq-eqb R R refl) in
      let g = enough R in
      omega (arith, e, f, g)

  pub place_there : R < length waiting
  place_there = within waiting R place_waits

  -- the place is counted down by 1
  down_one : (k : ℕ) → get_or (set waiting R (get_or waiting R 0 - 1)) k 0 + num (R == k) ≡ get_or waiting k 0
  down_one k = by (R == k) refl
    where
      by : (b : Bool) → (R == k) ≡ b → get_or (set waiting R (get_or waiting R 0 - 1)) k 0 + num b ≡ get_or waiting k 0
      by true e =
          let same = ap (λ (j : ℕ). get_or (set waiting R (get_or waiting R 0 - 1)) j 0) (sym (eqb-true R k e)) in
          let it = get_or-set_same waiting R (get_or waiting R 0 - 1) 0 place_there in
          let was = ap (λ (j : ℕ). get_or waiting j 0) (sym (eqb-true R k e)) in
          let some = place_waits in
          omega (arith, same, it, was, some)
      by false e =
          let it = get_or-set_other waiting R k (get_or waiting R 0 - 1) 0 (λ same. eqb-false R k e (sym same)) in
          omega (arith, it)

  pub enough_left : (k : ℕ) → times (drop (i + 1) places) k ≤ get_or (set waiting R (get_or waiting R 0 - 1)) k 0
  enough_left k =
      let e = times-next places i k lt in
      let f = enough k in
      let g = down_one k in
      omega (arith, e, f, g)

  pub down_more : (before : ℕ → ℕ) → ((k : ℕ) → get_or waiting k 0 + times places k ≡ before k + times (drop i places) k)
      → (k : ℕ) → get_or (set waiting R (get_or waiting R 0 - 1)) k 0 + times places k ≡ before k + times (drop (i + 1) places) k
  down_more before so_far k =
      let e = times-next places i k lt in
      let f = so_far k in
      let g = down_one k in
      omega (arith, e, f, g)

  place_among : 0 < times places R
  place_among =
      let e = times-next places i R lt in
      let f = ap num (eq-eqb R R refl) in
      let g = times-all places i R in
      omega (arith, e, f, g)

  module _ (done : ℕ → Bool) (flags : List Bool) (count : ℕ) (sizes : length flags ≡ length waiting) (undone : AreUndone done places) (h : AreFlagged done waiting flags count) where
    abbrev After : List ℕ
    After = set waiting R (get_or waiting R 0 - 1)

    not_done : done R ≡ false
    not_done = undone.each R place_among

    zero_test : (n : ℕ) → 0 < n → (n == 0) ≡ false
    zero_test n some = ne_eqb n 0 (λ e. omega (arith, e, some))

    unset : opened_of flags R ≡ false
    unset = h.flags_are R place_there ∙ ap (λ (b : Bool). not b && get_or waiting R 0 == 0) not_done ∙ zero_test (get_or waiting R 0) place_waits

    others : (k : ℕ) → (R == k) ≡ false → get_or After k 0 ≡ get_or waiting k 0
    others k e = get_or-set_other waiting R k (get_or waiting R 0 - 1) 0 (λ same. eqb-false R k e (sym same))

    many : length After ≡ length waiting
    many = length-set waiting R (get_or waiting R 0 - 1)

    kept : (k : ℕ) → k < length After → (R == k) ≡ false → opened_of flags k ≡ (not (done k) && get_or After k 0 == 0)
    kept k below e =
        let same = many in
        h.flags_are k (omega (arith, below, same)) ∙ ap (λ (n : ℕ). not (done k) && n == 0) (sym (others k e))

    -- it waits for more
    pub flagged_still : (get_or After R 0 ≡ 0 → ⊥) → AreFlagged done After flags count
    flagged_still more = record { flags_are = λ k below. by k below (R == k) refl; counted = h.counted ∙ ap (how_many (opened_of flags)) (sym many) }
      where
        by : (k : ℕ) → k < length After → (b : Bool) → (R == k) ≡ b → opened_of flags k ≡ (not (done k) && get_or After k 0 == 0)
        by k below true e =
            ap (opened_of flags) (sym (eqb-true R k e)) ∙ unset
            ∙ sym (ap (λ (j : ℕ). not (done j) && get_or After j 0 == 0) (sym (eqb-true R k e)) ∙ ap (λ (b : Bool). not b && get_or After R 0 == 0) not_done ∙ ne_eqb (get_or After R 0) 0 more)
        by k below false e = kept k below e

    -- it waits for nothing more
    pub flagged_more : get_or After R 0 ≡ 0 → AreFlagged done After (set flags R true) (count + 1)
    flagged_more none = record {
      flags_are = λ k below. by k below (R == k) refl;
      counted =
          let one = count-one (opened_of flags) (opened_of (set flags R true)) (length waiting) R place_there unset (here flags R true flag_there) (λ k below apart. sym (other flags R true flag_there k apart)) in
          let all = h.counted in
          let size = ap (how_many (opened_of (set flags R true))) many in
          omega (arith, one, all, size);
    }
      where
        flag_there : R < length flags
        flag_there = let there = place_there in omega (arith, there, sizes)

        by : (k : ℕ) → k < length After → (b : Bool) → (R == k) ≡ b → opened_of (set flags R true) k ≡ (not (done k) && get_or After k 0 == 0)
        by k below true e =
            ap (opened_of (set flags R true)) (sym (eqb-true R k e)) ∙ here flags R true flag_there
            ∙ sym (ap (λ (j : ℕ). not (done j) && get_or After j 0 == 0) (sym (eqb-true R k e)) ∙ ap (λ (b : Bool). not b && get_or After R 0 == 0) not_done ∙ eq-eqb (get_or After R 0) 0 none)
        by k below false e = other flags R true flag_there k (λ same. eqb-false R k e (sym same)) ∙ kept k below e

pub none_set : (n k : ℕ) → opened_of (replicate n false) k ≡ false
none_set zero k = refl
none_set (suc n) zero = refl
none_set (suc n) (suc k) = none_set n k
