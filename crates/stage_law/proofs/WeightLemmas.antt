-- Weights one by one against the factors of all values.
use Rattle.std.proofs.Common.{◌≡◌, ◌∙◌, ℕ, zero, suc, ◌+◌, ◌-◌, ◌<◌, ◌≤◌, refl, sym, ap, arith, List, [], ◌∷◌, ◌++◌, length, drop, get_or, replicate, ℤ, pos, negsuc, ◌+ℤ◌, ◌*ℤ◌, Bool, true, false, length-append}
use Rattle.std.proofs.lemmas.Int.{ints}
use Rattle.std.proofs.lemmas.List.{append-nil, drop_all, length-map, length-replicate}
use Rattle.mr_values.specs.Sequence.{weighted_sum}
use Rattle.mr_values.proofs.Polyphase.{weighted_sum-same}
use Rattle.stage_law.specs.Rising.{blank, behind_at, factors_in, AreRising, factors_from, kept}
use Rattle.stage_law.specs.Streams.{magnitudes}
use Rattle.stage_law.specs.declared.weights.Weight.{Weight}

-- ---- the weights of a list of factors

-- those of the factors from this value on
abbrev pub sparse : ℕ → List ℤ → List Weight
sparse place [] = []
sparse place (c ∷ []) = kept true place c
sparse place (c ∷ d ∷ cs) = kept false place c ++ sparse (suc place) (d ∷ cs)

-- the weight of one factor, and then the rest
pub sparse-more : (place : ℕ) (cs : List ℤ) (i : ℕ) (last : Bool) → i < length cs → (last ≡ true → suc i ≡ length cs) → (last ≡ false → suc i < length cs)
    → sparse (place + i) (drop i cs) ≡ kept last (place + i) (get_or cs i (pos 0)) ++ sparse (place + suc i) (drop (suc i) cs)
sparse-more place [] i last below h k = absurd (omega arith)
sparse-more place (c ∷ []) zero true below h k = refl
sparse-more place (c ∷ []) zero false below h k = absurd (omega (arith, k refl))
sparse-more place (c ∷ d ∷ cs) zero true below h k = absurd (omega (arith, h refl))
sparse-more place (c ∷ d ∷ cs) zero false below h k = ap (λ (n : ℕ). kept false (place + 0) c ++ sparse n (d ∷ cs)) (omega arith)
sparse-more place (c ∷ cs) (suc i) last below h k =
    let here : place + suc i ≡ suc place + i = omega arith in
    let next : suc place + suc i ≡ place + suc (suc i) = omega arith in
    ap (λ (n : ℕ). sparse n (drop i cs)) here
    ∙ sparse-more (suc place) cs i last (omega arith) (λ e. let more = h e in omega (arith, more)) (λ e. let more = k e in omega (arith, more))
    ∙ ap (λ (n : ℕ). kept last n (get_or cs i (pos 0)) ++ sparse (suc place + suc i) (drop (suc i) cs)) (sym here)
    ∙ ap (λ (n : ℕ). kept last (place + suc i) (get_or cs i (pos 0)) ++ sparse n (drop (suc i) cs)) next

zeros-then : (n : ℕ) (cs : List ℤ) → replicate (suc n) (pos 0) ++ cs ≡ replicate n (pos 0) ++ (pos 0 ∷ cs)
zeros-then zero cs = refl
zeros-then (suc n) cs = ap (λ (xs : List ℤ). pos 0 ∷ xs) (zeros-then n cs)

-- they weigh what the factors do
pub sparse-weighs : (from place : ℕ) (c : ℤ) (cs : List ℤ) → from ≤ place → factors_from from (sparse place (c ∷ cs)) ≡ replicate (place - from) (pos 0) ++ (c ∷ cs)
sparse-weighs from place c [] h = refl
sparse-weighs from place (pos zero) (d ∷ cs) h =
    let more : suc place - from ≡ suc (place - from) = omega arith in
    sparse-weighs from (suc place) d cs (omega arith) ∙ ap (λ (n : ℕ). replicate n (pos 0) ++ (d ∷ cs)) more ∙ zeros-then (place - from) (d ∷ cs)
sparse-weighs from place (pos (suc n)) (d ∷ cs) h =
    let none : suc place - suc place ≡ 0 = omega arith in
    ap (λ (xs : List ℤ). replicate (place - from) (pos 0) ++ (pos (suc n) ∷ xs)) (sparse-weighs (suc place) (suc place) d cs (omega arith) ∙ ap (λ (m : ℕ). replicate m (pos 0) ++ (d ∷ cs)) none)
sparse-weighs from place (negsuc n) (d ∷ cs) h =
    let none : suc place - suc place ≡ 0 = omega arith in
    ap (λ (xs : List ℤ). replicate (place - from) (pos 0) ++ (negsuc n ∷ xs)) (sparse-weighs (suc place) (suc place) d cs (omega arith) ∙ ap (λ (m : ℕ). replicate m (pos 0) ++ (d ∷ cs)) none)

pub sparse-all : (place : ℕ) (cs : List ℤ) → (length cs ≡ 0 → place ≡ 0) → factors_from 0 (sparse place cs) ≡ replicate place (pos 0) ++ cs
sparse-all place [] h = ap (λ (n : ℕ). replicate n (pos 0) ++ []) (sym (h refl))
sparse-all place (c ∷ cs) h = sparse-weighs 0 place c cs (omega arith) ∙ ap (λ (n : ℕ). replicate n (pos 0) ++ (c ∷ cs)) (omega arith)

-- ---- each of an older value

rising-cons : (w : Weight) (ws : List Weight) → ((j : ℕ) → j < length ws → w.behind < behind_at ws j) → AreRising ws → AreRising (w ∷ ws)
rising-cons w ws first rest = record { each = by }
  where
    by : (i j : ℕ) → i < j → j < length (w ∷ ws) → behind_at (w ∷ ws) i < behind_at (w ∷ ws) j
    by i zero less below = absurd (omega arith)
    by zero (suc j) less below = first j (omega arith)
    by (suc i) (suc j) less below = rest.each i j (omega arith) (omega arith)

sparse-from : (place : ℕ) (cs : List ℤ) (j : ℕ) → j < length (sparse place cs) → place ≤ behind_at (sparse place cs) j
sparse-from place [] j below = absurd (omega arith)
sparse-from place (c ∷ []) zero below = omega arith
sparse-from place (c ∷ []) (suc j) below = absurd (omega arith)
sparse-from place (pos zero ∷ d ∷ cs) j below = let rest = sparse-from (suc place) (d ∷ cs) j below in omega (arith, rest)
sparse-from place (pos (suc n) ∷ d ∷ cs) zero below = omega arith
sparse-from place (pos (suc n) ∷ d ∷ cs) (suc j) below = let rest = sparse-from (suc place) (d ∷ cs) j (omega arith) in omega (arith, rest)
sparse-from place (negsuc n ∷ d ∷ cs) zero below = omega arith
sparse-from place (negsuc n ∷ d ∷ cs) (suc j) below = let rest = sparse-from (suc place) (d ∷ cs) j (omega arith) in omega (arith, rest)

pub sparse-rises : (place : ℕ) (cs : List ℤ) → AreRising (sparse place cs)
sparse-rises place [] = record { each = λ i j less below. absurd (omega arith) }
sparse-rises place (c ∷ []) = record { each = λ i j less below. absurd (omega arith) }
sparse-rises place (pos zero ∷ d ∷ cs) = sparse-rises (suc place) (d ∷ cs)
sparse-rises place (pos (suc n) ∷ d ∷ cs) = rising-cons _ (sparse (suc place) (d ∷ cs)) (λ j below. sparse-from (suc place) (d ∷ cs) j below) (sparse-rises (suc place) (d ∷ cs))
sparse-rises place (negsuc n ∷ d ∷ cs) = rising-cons _ (sparse (suc place) (d ∷ cs)) (λ j below. sparse-from (suc place) (d ∷ cs) j below) (sparse-rises (suc place) (d ∷ cs))

pub one-rises : (w : Weight) → AreRising (w ∷ [])
one-rises w = record { each = λ i j less below. absurd (omega arith) }

-- nothing remains
pub sparse-whole : (place : ℕ) (cs : List ℤ) (i : ℕ) (done : List Weight) → length cs ≤ i → done ++ sparse (place + i) (drop i cs) ≡ sparse place cs → done ≡ sparse place cs
sparse-whole place cs i done past e =
    sym (append-nil done) ∙ ap (λ (rest : List ℤ). done ++ sparse (place + i) rest) (sym (drop_all i cs past)) ∙ e

-- ---- weights one by one

head-factor : (place : ℕ) (w : Weight) (ws : List Weight) (f : ℕ → ℤ) (n : ℕ) → n ≡ w.behind - place → place ≤ w.behind
    → weighted_sum (replicate n (pos 0) ++ (w.factor ∷ factors_from (suc w.behind) ws)) (λ k. f (place + k)) ≡ w.factor *ℤ f w.behind +ℤ weighted_sum (factors_from (suc w.behind) ws) (λ k. f (suc w.behind + k))
head-factor place w ws f zero e h =
    let here : place + 0 ≡ w.behind = omega arith in
    ap (λ (n : ℕ). w.factor *ℤ f n +ℤ weighted_sum (factors_from (suc w.behind) ws) (λ k. f (place + suc k))) here
    ∙ ap (λ (z : ℤ). w.factor *ℤ f w.behind +ℤ z) (weighted_sum-same (factors_from (suc w.behind) ws) (λ k. f (place + suc k)) (λ k. f (suc w.behind + k)) (λ k. ap f (omega arith)))
head-factor place w ws f (suc n) e h =
    let form = replicate n (pos 0) ++ (w.factor ∷ factors_from (suc w.behind) ws) in
    let moved : weighted_sum form (λ k. f (place + suc k)) ≡ weighted_sum form (λ k. f (suc place + k)) = weighted_sum-same form (λ k. f (place + suc k)) (λ k. f (suc place + k)) (λ k. ap f (omega arith)) in
    let rest = head-factor (suc place) w ws f n (omega arith) (omega arith) in
    let none : pos 0 *ℤ f (place + 0) ≡ pos 0 = omega (arith, ints) in
    ap (λ (z : ℤ). z +ℤ weighted_sum form (λ k. f (place + suc k))) none ∙ omega (arith, ints, moved, rest)

rising-rest : (w : Weight) (ws : List Weight) → AreRising (w ∷ ws) → AreRising ws
rising-rest w ws h = record { each = λ i j less below. h.each (suc i) (suc j) (omega arith) (omega arith) }

first-after : (w : Weight) (ws : List Weight) → AreRising (w ∷ ws) → 0 < length ws → suc w.behind ≤ behind_at ws 0
first-after w ws h some = h.each 0 1 (omega arith) (omega arith)

-- the sum over all values is that over the weights
sum-from : (place : ℕ) (ws : List Weight) (f : ℕ → ℤ) → AreRising ws → (0 < length ws → place ≤ behind_at ws 0)
    → weighted_sum (factors_from place ws) (λ k. f (place + k)) ≡ weighted_sum (factors_in ws) (λ k. f (behind_at ws k))
sum-from place [] f h first = refl
sum-from place (w ∷ ws) f h first =
    head-factor place w ws f (w.behind - place) refl (first (omega arith))
    ∙ ap (λ (z : ℤ). w.factor *ℤ f w.behind +ℤ z) (sum-from (suc w.behind) ws f (rising-rest w ws h) (first-after w ws h))

pub sum-in : (ws : List Weight) (f : ℕ → ℤ) → AreRising ws → weighted_sum (factors_from 0 ws) f ≡ weighted_sum (factors_in ws) (λ k. f (behind_at ws k))
sum-in ws f h =
    weighted_sum-same (factors_from 0 ws) f (λ k. f (0 + k)) (λ k. ap f (omega arith))
    ∙ sum-from 0 ws f h (λ some. omega arith)

magnitudes-zeros : (n : ℕ) (cs : List ℤ) → magnitudes (replicate n (pos 0) ++ cs) ≡ magnitudes cs
magnitudes-zeros zero cs = refl
magnitudes-zeros (suc n) cs = let rest = magnitudes-zeros n cs in omega (arith, rest)

pub magnitudes-in : (place : ℕ) (ws : List Weight) → magnitudes (factors_from place ws) ≡ magnitudes (factors_in ws)
magnitudes-in place [] = refl
magnitudes-in place (w ∷ ws) =
    let rest = magnitudes-in (suc w.behind) ws in
    let zeros = magnitudes-zeros (w.behind - place) (w.factor ∷ factors_from (suc w.behind) ws) in
    omega (arith, zeros, rest)

-- how many values they reach
length-from : (place : ℕ) (ws : List Weight) → AreRising ws → (0 < length ws → place ≤ behind_at ws 0) → 0 < length ws → place + length (factors_from place ws) ≡ suc (behind_at ws (length ws - 1))
length-from place [] h first some = absurd (omega arith)
length-from place (w ∷ []) h first some =
    let here = first some in
    let long = length-append (replicate (w.behind - place) (pos 0)) (w.factor ∷ []) in
    let zeros = length-replicate (w.behind - place) (pos 0) in
    omega (arith, here, long, zeros)
length-from place (w ∷ u ∷ ws) h first some =
    let here = first some in
    let long = length-append (replicate (w.behind - place) (pos 0)) (w.factor ∷ factors_from (suc w.behind) (u ∷ ws)) in
    let zeros = length-replicate (w.behind - place) (pos 0) in
    let rest = length-from (suc w.behind) (u ∷ ws) (rising-rest w (u ∷ ws) h) (first-after w (u ∷ ws) h) (omega arith) in
    let next : length (w ∷ u ∷ ws) - 1 ≡ suc (length (u ∷ ws) - 1) = omega arith in
    let last : behind_at (w ∷ u ∷ ws) (length (w ∷ u ∷ ws) - 1) ≡ behind_at (u ∷ ws) (length (u ∷ ws) - 1) = ap (behind_at (w ∷ u ∷ ws)) next in
    omega (arith, here, long, zeros, rest, last)

pub length-in : (ws : List Weight) → AreRising ws → 0 < length ws → length (factors_from 0 ws) ≡ suc (behind_at ws (length ws - 1))
length-in ws h some = let all = length-from 0 ws h (λ one. omega arith) some in omega (arith, all)

-- ---- one of them

pub count-in : (ws : List Weight) → length (factors_in ws) ≡ length ws
count-in ws = length-map ws (λ (w : Weight). w.factor)

pub factor-at : (ws : List Weight) (i : ℕ) → i < length ws → get_or (factors_in ws) i (pos 0) ≡ (get_or ws i blank).factor
factor-at [] i h = absurd (omega arith)
factor-at (w ∷ ws) zero h = refl
factor-at (w ∷ ws) (suc i) h = factor-at ws i (omega arith)
