-- Segments of leaves, and the terms that stand for them.
use Rattle.std.proofs.Common.{◌≡◌, ℕ, zero, suc, ◌+◌, ◌-◌, ◌*◌, ◌/◌, ◌^◌, ◌<◌, ◌≤◌, List, [], ◌∷◌, ◌++◌, length, take, drop, refl, sym, ◌∙◌, ap, arith, Some, slice_get, inl, inr, ℤ, pos, ◌+ℤ◌, Bool, true, false, cond}
use Rattle.std.proofs.lemmas.Bool.{cases_eq}
use Rattle.std.proofs.lemmas.Int.{ints}
use Rattle.std.proofs.lemmas.List.{drop-drop, drop_all}
use Rattle.std.proofs.lemmas.Option.{slice_get_cases}
use Rattle.std.proofs.lemmas.Nat.{pow_pos, pow-add}
use Rattle.std.proofs.Math.Seq.{take-add}
use Rattle.std.proofs.Math.Nat.{div-div-eq-div-mul, lt-div-mul-add, add-mul-div_right, div-mul-le_self, mul-le-mul_right}
use Rattle.net_graph.specs.declared.cell.Leaf.{Leaf}
use Rattle.net_graph.specs.Run.{Values}
use Rattle.pipeline_balance.specs.Leaves.{delayed, signed_by, leaf_value, signed_sum, all_negative, segment}
use Rattle.pipeline_balance.specs.Tree.{level_count, count_to}

-- ---- delays

pub delayed_same : (ticks t : ℕ) (f g : ℕ → ℤ) → ((s : ℕ) → f s ≡ g s) → delayed ticks t f ≡ delayed ticks t g
delayed_same zero t f g e = e t
delayed_same (suc ticks) zero f g e = refl
delayed_same (suc ticks) (suc t) f g e = delayed_same ticks t f g e

-- ---- numbers of registers

twice : (level : ℕ) → 2 ^ suc level ≡ 2 ^ level + 2 ^ level
twice level =
    let e : suc level ≡ level + 1 = omega arith in ap (λ (k : ℕ). 2 ^ k) e ∙ pow-add 2 level 1 ∙ double (2 ^ level)
  where
    double : (n : ℕ) → n * 2 ≡ n + n
    double n = omega arith

pub level_count-zero : (n : ℕ) → level_count n 0 ≡ n
level_count-zero n = omega arith

pub level_count-suc : (n level : ℕ) → level_count n (suc level) ≡ (level_count n level + 1) / 2
level_count-suc n level =
    let p = 2 ^ level in
    let some : 0 < p = pow_pos level in
    let whole : 2 ^ suc level ≡ p * 2 = twice level ∙ omega arith in
    let sum : n + (p * 2 - 1) ≡ (n + (p - 1)) + 1 * p = omega arith in
    let more : (n + (p - 1) + 1 * p) / p ≡ (n + (p - 1)) / p + 1 = add-mul-div_right (n + (p - 1)) 1 some in
    rw (whole, ← div-div-eq-div-mul (n + (p * 2 - 1)) p 2, sum, more) refl

pub below_level_count : (n level : ℕ) → n ≤ level_count n level * 2 ^ level
below_level_count n level =
    let p = 2 ^ level in
    let some : 0 < p = pow_pos level in
    let h : n + (p - 1) < (n + (p - 1)) / p * p + p = lt-div-mul-add some in
    omega arith

pub starts_within : (n level j : ℕ) → j < level_count n level → j * 2 ^ level < n
starts_within n level j h =
    let p = 2 ^ level in
    let some : 0 < p = pow_pos level in
    let m : (n + (p - 1)) / p * p ≤ n + (p - 1) = div-mul-le_self (n + (p - 1)) p in
    let k : suc j * p ≤ (n + (p - 1)) / p * p = mul-le-mul_right p h in
    omega arith

pub level_count_one : (n level : ℕ) → n ≤ 2 ^ level → 1 ≤ n → level_count n level ≡ 1
level_count_one n level h some =
    let p = 2 ^ level in
    one (level_count n level) p (below_level_count n level) (div-mul-le_self (n + (p - 1)) p) (pow_pos level) h
  where
    one : (c p : ℕ) → n ≤ c * p → c * p ≤ n + (p - 1) → 0 < p → n ≤ p → c ≡ 1
    one zero p a b d e = absurd (omega arith)
    one (suc zero) p a b d e = refl
    one (suc (suc c)) p a b d e = absurd (omega arith)

pub count_to-mono : (n a b : ℕ) → a ≤ b → count_to n a ≤ count_to n b
count_to-mono n a zero h = let e : a ≡ 0 = omega arith in rw e (omega arith)
count_to-mono n a (suc b) h = elim (cases_eq a (suc b)) [
  | inl e ↦ rw e (omega arith)
  | inr ne ↦ let le : a ≤ b = omega arith in let m = count_to-mono n a b le in omega arith
]

pub level_count-none : (level : ℕ) → level_count 0 level ≡ 0
level_count-none level = none (level_count 0 level) (2 ^ level) (div-mul-le_self (0 + (2 ^ level - 1)) (2 ^ level)) (pow_pos level)
  where
    none : (c p : ℕ) → c * p ≤ 0 + (p - 1) → 0 < p → c ≡ 0
    none zero p a b = refl
    none (suc c) p a b = absurd (omega arith)

-- ---- segments

take-nil : {X : Type 0} (n : ℕ) → ◌≡◌ {A = List X} (take n []) []
take-nil zero = refl
take-nil (suc n) = refl

pub segment_past : (level j : ℕ) (leaves : List Leaf) → length leaves ≤ j * 2 ^ level → segment level j leaves ≡ []
segment_past level j leaves h = ap (take (2 ^ level)) (drop_all (j * 2 ^ level) leaves h) ∙ take-nil (2 ^ level)

-- a segment is the two of the level before
pub segment-suc : (level j : ℕ) (leaves : List Leaf) → segment (suc level) j leaves ≡ segment level (j * 2) leaves ++ segment level (j * 2 + 1) leaves
segment-suc level j leaves =
    let p = 2 ^ level in
    let start : j * 2 ^ suc level ≡ j * 2 * p = ap (λ (k : ℕ). j * k) (twice level) ∙ omega arith in
    let next : j * 2 * p + p ≡ (j * 2 + 1) * p = omega arith in
    ap (λ (k : ℕ). take k (drop (j * 2 ^ suc level) leaves)) (twice level) ∙ ap (λ (k : ℕ). take (p + p) (drop k leaves)) start ∙ take-add p p (drop (j * 2 * p) leaves)
    ∙ ap (λ (xs : List Leaf). take p (drop (j * 2 * p) leaves) ++ take p xs) (drop-drop p (j * 2 * p) leaves ∙ ap (λ (k : ℕ). drop k leaves) next)

take_two : (xs : List Leaf) (i : ℕ) (a b : Leaf) → slice_get xs i ≡ Some a → slice_get xs (suc i) ≡ Some b → take 2 (drop i xs) ≡ a ∷ b ∷ []
take_two [] i a b e f = absurd (cc)
take_two (x ∷ []) zero a b e f = absurd (cc)
take_two (x ∷ y ∷ xs) zero a b e f = let p : x ≡ a = cc in let q : y ≡ b = cc in rw (p, q) refl
take_two (x ∷ xs) (suc i) a b e f = take_two xs i a b e f

take_one : (xs : List Leaf) (i : ℕ) (a : Leaf) → slice_get xs i ≡ Some a → length xs ≤ i + 1 → take 2 (drop i xs) ≡ a ∷ []
take_one [] i a e h = absurd (cc)
take_one (x ∷ []) zero a e h = let p : x ≡ a = cc in rw p refl
take_one (x ∷ y ∷ xs) zero a e h = absurd (omega arith)
take_one (x ∷ xs) (suc i) a e h = take_one xs i a e (omega arith)

pub segment_two : (leaves : List Leaf) (j : ℕ) (a b : Leaf) → slice_get leaves (j * 2) ≡ Some a → slice_get leaves (j * 2 + 1) ≡ Some b → segment 1 j leaves ≡ a ∷ b ∷ []
segment_two leaves j a b e f = let q : suc (j * 2) ≡ j * 2 + 1 = omega arith in take_two leaves (j * 2) a b e (rw q f)

pub segment_one : (leaves : List Leaf) (j : ℕ) (a : Leaf) → slice_get leaves (j * 2) ≡ Some a → length leaves ≤ j * 2 + 1 → segment 1 j leaves ≡ a ∷ []
segment_one leaves j a e h = take_one leaves (j * 2) a e h

-- a leaf by itself
pub segment_leaf : (leaves : List Leaf) (j : ℕ) (a : Leaf) → slice_get leaves j ≡ Some a → segment 0 j leaves ≡ a ∷ []
segment_leaf leaves j a e = let same : j * 1 ≡ j = omega arith in rw same (first leaves j a e)
  where
    first : (xs : List Leaf) (i : ℕ) (a : Leaf) → slice_get xs i ≡ Some a → take 1 (drop i xs) ≡ a ∷ []
    first [] i a e = absurd (cc)
    first (x ∷ xs) zero a e = let p : x ≡ a = cc in rw p refl
    first (x ∷ xs) (suc i) a e = first xs i a e

take_whole : (xs : List Leaf) (n : ℕ) → length xs ≤ n → take n xs ≡ xs
take_whole [] n h = take-nil n
take_whole (x ∷ xs) zero h = absurd (omega arith)
take_whole (x ∷ xs) (suc n) h = ap (λ (ys : List Leaf). x ∷ ys) (take_whole xs n (omega arith))

pub segment_all : (level : ℕ) (leaves : List Leaf) → length leaves ≤ 2 ^ level → segment level 0 leaves ≡ leaves
segment_all level leaves h = let e : 0 * 2 ^ level ≡ 0 = omega arith in rw e (take_whole leaves (2 ^ level) h)

-- ---- sums over segments

pub signed_sum-append : (v : Values) (t : ℕ) (xs ys : List Leaf) → signed_sum v t (xs ++ ys) ≡ signed_sum v t xs +ℤ signed_sum v t ys
signed_sum-append v t [] ys = omega (arith, ints)
signed_sum-append v t (x ∷ xs) ys = omega (arith, ints, signed_sum-append v t xs ys)

pub all_negative-append : (xs ys : List Leaf) → all_negative (xs ++ ys) ≡ cond (all_negative xs) (all_negative ys) false
all_negative-append [] ys = refl
all_negative-append (x ∷ xs) ys = ap (λ (b : Bool). cond x.negative b false) (all_negative-append xs ys) ∙ each x.negative (all_negative xs) (all_negative ys)
  where
    each : (a b c : Bool) → cond a (cond b c false) false ≡ cond (cond a b false) c false
    each true b c = refl
    each false b c = refl

pub delayed-+ : (k t : ℕ) (f g : ℕ → ℤ) → delayed k t f +ℤ delayed k t g ≡ delayed k t (λ s. f s +ℤ g s)
delayed-+ zero t f g = refl
delayed-+ (suc k) zero f g = refl
delayed-+ (suc k) (suc t) f g = delayed-+ k t f g

signed_by-zero : (m : Bool) → signed_by m (pos 0) ≡ pos 0
signed_by-zero true = refl
signed_by-zero false = refl

pub delayed-signed_by : (m : Bool) (k t : ℕ) (f : ℕ → ℤ) → signed_by m (delayed k t f) ≡ delayed k t (λ s. signed_by m (f s))
delayed-signed_by m zero t f = refl
delayed-signed_by m (suc k) zero f = signed_by-zero m
delayed-signed_by m (suc k) (suc t) f = delayed-signed_by m k t f

-- ---- terms that stand for the segments of a level

-- in this run each term has the value of its segment, some ticks before
pub record StandFor (v : Values) (leaves terms : List Leaf) (level : ℕ) : Type 0 where
  pub each : (j : ℕ) (term : Leaf) → slice_get terms j ≡ Some term → (t : ℕ) → leaf_value v t term ≡ delayed level t (λ s. signed_sum v s (segment level j leaves))

-- and this at one tick of the leaves
pub record StandAt (v : Values) (leaves terms : List Leaf) (level t : ℕ) : Type 0 where
  pub each : (j : ℕ) (term : Leaf) → slice_get terms j ≡ Some term → leaf_value v (t + level) term ≡ signed_sum v t (segment level j leaves)

no_more : (a b c d : ℤ) → a ≡ c → b ≡ d → a +ℤ (b +ℤ pos 0) ≡ c +ℤ d
no_more a b c d e f = omega (arith, ints)

only : (a c : ℤ) → a ≡ c → a +ℤ pos 0 ≡ c
only a c e = omega (arith, ints)

none : (a : ℤ) → a +ℤ pos 0 ≡ a
none a = omega (arith, ints)

-- each term is negative where all its leaves are
pub record HaveSigns (leaves terms : List Leaf) (level : ℕ) : Type 0 where
  pub each : (j : ℕ) (term : Leaf) → slice_get terms j ≡ Some term → term.negative ≡ all_negative (segment level j leaves)

module _ (leaves terms : List Leaf) (level : ℕ) (count : length terms ≡ level_count (length leaves) level) where
  ends : (j : ℕ) → length terms ≤ j * 2 + 1 → segment level (j * 2 + 1) leaves ≡ []
  ends j h =
      let m = below_level_count (length leaves) level in
      let k : length terms * 2 ^ level ≤ (j * 2 + 1) * 2 ^ level = mul-le-mul_right (2 ^ level) h in
      let e : level_count (length leaves) level * 2 ^ level ≡ length terms * 2 ^ level = ap (λ (n : ℕ). n * 2 ^ level) (sym count) in
      segment_past level (j * 2 + 1) leaves (omega arith)

  pub pair_sum : (v : Values) → StandFor v leaves terms level → (j : ℕ) → j * 2 < length terms → (t : ℕ)
      → signed_sum v t (segment 1 j terms) ≡ delayed level t (λ s. signed_sum v s (segment (suc level) j leaves))
  pair_sum v stand j h t = elim ((slice_get_cases terms (j * 2)).1) [
    | inl a ↦ elim ((slice_get_cases terms (j * 2 + 1)).1) [
      | inl b ↦
          ap (signed_sum v t) (segment_two terms j a.0 b.0 a.2 b.2) ∙ no_more _ _ _ _ (stand.each (j * 2) a.0 a.2 t) (stand.each (j * 2 + 1) b.0 b.2 t)
          ∙ delayed-+ level t _ _ ∙ delayed_same level t _ _ (λ s. sym (ap (signed_sum v s) (segment-suc level j leaves) ∙ signed_sum-append v s (segment level (j * 2) leaves) (segment level (j * 2 + 1) leaves)))
      | inr last ↦
          ap (signed_sum v t) (segment_one terms j a.0 a.2 last.0) ∙ only _ _ (stand.each (j * 2) a.0 a.2 t)
          ∙ delayed_same level t _ _ (λ s. sym (ap (signed_sum v s) (segment-suc level j leaves) ∙ signed_sum-append v s (segment level (j * 2) leaves) (segment level (j * 2 + 1) leaves) ∙ ap (λ (xs : List Leaf). signed_sum v s (segment level (j * 2) leaves) +ℤ signed_sum v s xs) (ends j last.0) ∙ none _))
    ]
    | inr past ↦ absurd (omega (arith, past.0))
  ]

  pub pair_sum_at : (v : Values) (t : ℕ) → StandAt v leaves terms level t → (j : ℕ) → j * 2 < length terms → signed_sum v (t + level) (segment 1 j terms) ≡ signed_sum v t (segment (suc level) j leaves)
  pair_sum_at v t stand j h = elim ((slice_get_cases terms (j * 2)).1) [
    | inl a ↦ elim ((slice_get_cases terms (j * 2 + 1)).1) [
      | inl b ↦
          ap (signed_sum v (t + level)) (segment_two terms j a.0 b.0 a.2 b.2) ∙ no_more _ _ _ _ (stand.each (j * 2) a.0 a.2) (stand.each (j * 2 + 1) b.0 b.2)
          ∙ sym (ap (signed_sum v t) (segment-suc level j leaves) ∙ signed_sum-append v t (segment level (j * 2) leaves) (segment level (j * 2 + 1) leaves))
      | inr last ↦
          ap (signed_sum v (t + level)) (segment_one terms j a.0 a.2 last.0) ∙ only _ _ (stand.each (j * 2) a.0 a.2)
          ∙ sym (ap (signed_sum v t) (segment-suc level j leaves) ∙ signed_sum-append v t (segment level (j * 2) leaves) (segment level (j * 2 + 1) leaves) ∙ ap (λ (xs : List Leaf). signed_sum v t (segment level (j * 2) leaves) +ℤ signed_sum v t xs) (ends j last.0) ∙ none _)
    ]
    | inr past ↦ absurd (omega (arith, past.0))
  ]

  pub pair_negative : HaveSigns leaves terms level → (j : ℕ) → j * 2 < length terms → all_negative (segment 1 j terms) ≡ all_negative (segment (suc level) j leaves)
  pair_negative signs j h = elim ((slice_get_cases terms (j * 2)).1) [
    | inl a ↦ elim ((slice_get_cases terms (j * 2 + 1)).1) [
      | inl b ↦
          ap all_negative (segment_two terms j a.0 b.0 a.2 b.2) ∙ both _ _ _ _ (signs.each (j * 2) a.0 a.2) (signs.each (j * 2 + 1) b.0 b.2)
          ∙ sym (ap all_negative (segment-suc level j leaves) ∙ all_negative-append (segment level (j * 2) leaves) (segment level (j * 2 + 1) leaves))
      | inr last ↦
          ap all_negative (segment_one terms j a.0 a.2 last.0) ∙ only _ _ (signs.each (j * 2) a.0 a.2)
          ∙ sym (ap all_negative (segment-suc level j leaves) ∙ all_negative-append (segment level (j * 2) leaves) (segment level (j * 2 + 1) leaves) ∙ ap (λ (xs : List Leaf). cond (all_negative (segment level (j * 2) leaves)) (all_negative xs) false) (ends j last.0))
    ]
    | inr past ↦ absurd (omega (arith, past.0))
  ]
    where
      both : (a b c d : Bool) → a ≡ c → b ≡ d → cond a (cond b true false) false ≡ cond c d false
      both a b c d e f = rw (e, f) (each c d)
        where
          each : (c d : Bool) → cond c (cond d true false) false ≡ cond c d false
          each true true = refl
          each true false = refl
          each false d = refl

      only : (a c : Bool) → a ≡ c → cond a true false ≡ cond c true false
      only a c e = ap (λ (b : Bool). cond b true false) e
