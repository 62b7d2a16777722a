-- Samples that reach an end of a sum at an index that has its whole history.
use Rattle.std.proofs.Common.{◌≡◌, ◌∙◌, ℕ, zero, suc, ◌+◌, ◌-◌, ◌*◌, ◌/◌, ◌<◌, ◌≤◌, max, refl, sym, ap, arith, subst, List, [], ◌∷◌, ◌++◌, length, get_or, reverse, All, ℤ, pos, negsuc, ◌+ℤ◌, ◌-ℤ◌, ◌*ℤ◌, ◌≤ℤ◌, Bool}
use Rattle.std.proofs.lemmas.Int.{ints}
use Rattle.std.proofs.lemmas.Nat.{div-add-mod', mod_below}
use Rattle.std.proofs.lemmas.List.{reverse-append}
use Rattle.mr_values.specs.Width.{FitsWidth}
use Rattle.mr_values.specs.Sequence.{Sequence, samples, filter, weighted_sum}
use Rattle.mr_values.specs.Timing.{low_end}
use Rattle.mr_values.specs.Value.{size}
use Rattle.mr_values.proofs.Polyphase.{weighted_sum-same}
use Rattle.stage_law.specs.declared.ranges.Class.{Class}
use Rattle.impulse_phase.specs.declared.table.Response.{Response as Table}
use Rattle.impulse_phase.specs.Response.{Response, Responses, added, scaled, behind, combined, through_filter, HasResponses}
use Rattle.plan_check.specs.Costs.{gcd}
use Rattle.impulse_phase.specs.Reading.{rows_of, responses_of}
use Rattle.impulse_phase.proofs.Ends.{tabulate, history, samples-history}
use Rattle.impulse_phase.proofs.Prefix.{common-turns}
use Rattle.impulse_phase.proofs.Steps.{filter-keeps, recurs-times}
use Rattle.impulse_phase.proofs.Tables.{told_here}
use Rattle.width_extreme.specs.Prefix.{finer_classes}
use Rattle.width_extreme.specs.Walk.{transform_of, IsLawful, IsLongest, delay_at}
use Rattle.width_extreme.specs.Furthest.{chosen_for, near_end, far_end, listed, samples_at}
use Rattle.width_extreme.proofs.Bounds.{AllFit, history-fits}
use Rattle.width_extreme.proofs.Lawful.{table-law, rows-some}
use Rattle.width_extreme.proofs.Ranges.{later-at, zero-fits}
use Rattle.width_extreme.proofs.Walk.{delays-rise, longest-everywhere, newest-pos}

-- ---- how many weights a sum has

length-added : (a b : List ℤ) → length (added a b) ≡ max (length a) (length b)
length-added [] b = omega arith
length-added (x ∷ a) [] = omega arith
length-added (x ∷ a) (y ∷ b) = omega (arith, length-added a b)

length-scaled : (c : ℤ) (a : List ℤ) → length (scaled c a) ≡ length a
length-scaled c [] = refl
length-scaled c (x ∷ a) = ap suc (length-scaled c a)

length-behind : (d : ℕ) (a : List ℤ) → length (behind d a) ≤ d + length a
length-behind d [] = omega arith
length-behind zero (x ∷ a) = omega arith
length-behind (suc d) (x ∷ a) = omega (arith, length-behind d (x ∷ a))

length-combined : (newest : ℤ) (cs : List ℤ) (f : ℕ → Response) (most : ℕ) → ((k : ℕ) → k < length cs → length (behind (size (newest -ℤ (f k).newest)) (f k).weights) ≤ most)
    → length (combined newest cs f) ≤ most
length-combined newest [] f most h = omega arith
length-combined newest (c ∷ cs) f most h =
    let first = behind (size (newest -ℤ (f zero).newest)) (f zero).weights in
    let rest = combined newest cs (λ k. f (suc k)) in
    omega (arith, length-added (scaled c first) rest, length-scaled c first, h zero (omega arith), length-combined newest cs (λ k. f (suc k)) most (λ k below. h (suc k) (omega arith)))

-- no more than as far as the last value lies back, and the longest row
weights-length : (table : Table) (longest index last : ℕ) (form : List ℤ) → IsLawful table → IsLongest table longest → length form ≤ suc last
    → length (through_filter form (responses_of table) (pos index)).weights ≤ delay_at table index last + longest
weights-length table longest index last form law long few =
    length-combined (responses_of table (pos index)).newest form (λ k. responses_of table (pos index -ℤ pos k)) (delay_at table index last + longest)
    (λ k below. omega (
      arith,
      length-behind (delay_at table index k) (responses_of table (pos index -ℤ pos k)).weights,
      longest-everywhere table longest (rows-some table) long (pos index -ℤ pos k),
      delays-rise table index k last law (omega arith),
    ))

-- ---- an index with its whole history

record HasHistory (table : Table) (index : ℕ) (weights : List ℤ) : Type 0 where
  newest : ℕ
  is : (responses_of table (pos index)).newest ≡ pos newest
  enough : length weights ≤ suc newest

first-newest : (table : Table) → pos 0 ≤ℤ (responses_of table (pos 0)).newest
first-newest table =
    let row = newest-pos table 0 (rows-some table) in
    omega (arith, ints, ap (λ (r : Response). r.newest) (told_here (rows_of table) table.step 0 (rows-some table)), row.1)

-- after so many rounds the newest sample is as late as the longest row is long
late-enough : (table : Table) (longest m : ℕ) → IsLawful table → length (rows_of table) * (longest / table.step + 1) ≤ m → pos longest ≤ℤ (responses_of table (pos m)).newest
late-enough table longest m law far =
    let classes = length (rows_of table) in
    let rounds = longest / table.step + 1 in
    let f = responses_of table in
    let back : pos m -ℤ pos (m - classes * rounds) ≡ pos 0 +ℤ pos (rounds * classes) = omega (arith, ints, turned classes rounds) in
    let before = subst (λ (z : ℤ). (f z).newest ≤ℤ (f (pos m)).newest) back (law.ordered (pos m) (m - classes * rounds)) in
    let on = ap (λ (r : Response). r.newest) (recurs-times (transform_of table) f classes table.step (table-law table law) rounds (pos 0)) in
    let split = div-add-mod' longest table.step in
    let rest = mod_below longest table.step law.has_step in
    let more : rounds * table.step ≡ longest / table.step * table.step + table.step = omega arith in
    omega (arith, ints, before, on, first-newest table, split, rest, more)
  where
    turned : (a b : ℕ) → a * b ≡ b * a
    turned zero b = omega arith
    turned (suc a) b = omega (arith, turned a b)

has-history : (table : Table) (longest index last : ℕ) (form : List ℤ) → IsLawful table → IsLongest table longest → length form ≤ suc last
    → last + length (rows_of table) * (longest / table.step + 1) ≤ index → HasHistory table index (through_filter form (responses_of table) (pos index)).weights
has-history table longest index last form law long few far = by_newest (f (pos index)).newest refl
  where
    f : Responses
    f = responses_of table

    back : pos index -ℤ pos last ≡ pos (index - last)
    back = omega (arith, ints)

    late : pos longest ≤ℤ (f (pos index -ℤ pos last)).newest
    late = subst (λ (z : ℤ). pos longest ≤ℤ (f z).newest) (sym back) (late-enough table longest (index - last) law (omega arith))

    delay : (z : ℤ) → (f (pos index)).newest -ℤ (f (pos index -ℤ pos last)).newest ≡ z → pos (size z) ≡ z
    delay (pos d) e = refl
    delay (negsuc d) e = absurd (omega (arith, ints, law.ordered (pos index) last))

    by_newest : (z : ℤ) → (f (pos index)).newest ≡ z → HasHistory table index (through_filter form f (pos index)).weights
    by_newest (pos n) e = record {
      newest = n;
      is = e;
      enough = omega (arith, ints, weights-length table longest index last form law long few, delay ((f (pos index)).newest -ℤ (f (pos index -ℤ pos last)).newest) refl, late, e);
    }
    by_newest (negsuc n) e = absurd (omega (arith, ints, e, late, law.ordered (pos index) last))

-- ---- the samples

abbrev pub all_chosen : ℤ → ℤ → List ℤ → List ℤ
all_chosen low high [] = []
all_chosen low high (c ∷ cs) = chosen_for low high c ∷ all_chosen low high cs

length-chosen : (low high : ℤ) (cs : List ℤ) → length (all_chosen low high cs) ≡ length cs
length-chosen low high [] = refl
length-chosen low high (c ∷ cs) = ap suc (length-chosen low high cs)

chosen-fit : (w : ℕ) (low high : ℤ) (cs : List ℤ) → FitsWidth w low → FitsWidth w high → AllFit w (all_chosen low high cs)
chosen-fit w low high [] l h k = zero-fits w
chosen-fit w low high (pos zero ∷ cs) l h zero = zero-fits w
chosen-fit w low high (pos (suc c) ∷ cs) l h zero = l
chosen-fit w low high (negsuc c ∷ cs) l h zero = h
chosen-fit w low high (c ∷ cs) l h (suc k) = chosen-fit w low high cs l h k

sum-chosen : (cs : List ℤ) (low high : ℤ) → weighted_sum cs (λ k. get_or (all_chosen low high cs) k (pos 0)) ≡ low_end cs low high
sum-chosen [] low high = refl
sum-chosen (pos zero ∷ cs) low high = omega (arith, ints, sum-chosen cs low high)
sum-chosen (pos (suc c) ∷ cs) low high = ap (λ (z : ℤ). pos (suc c) *ℤ low +ℤ z) (sum-chosen cs low high)
sum-chosen (negsuc c ∷ cs) low high = ap (λ (z : ℤ). negsuc c *ℤ high +ℤ z) (sum-chosen cs low high)

-- they give the end of the sum
pub record Chosen (table : Table) (w : ℕ) (form : List ℤ) (a b : ℤ) (index : ℕ) : Type 0 where
  pub newest : ℕ
  pub newest_is : (responses_of table (pos index)).newest ≡ pos newest
  pub fits : All (FitsWidth w) (history newest (all_chosen a b (through_filter form (responses_of table) (pos index)).weights))
  pub is : filter form (transform_of table (samples (history newest (all_chosen a b (through_filter form (responses_of table) (pos index)).weights)))) (pos index)
      ≡ low_end (through_filter form (responses_of table) (pos index)).weights a b

pub chosen-reach : (table : Table) (longest w index last : ℕ) (form : List ℤ) (a b : ℤ) → IsLawful table → IsLongest table longest → length form ≤ suc last
    → last + length (rows_of table) * (longest / table.step + 1) ≤ index → FitsWidth w a → FitsWidth w b → Chosen table w form a b index
chosen-reach table longest w index last form a b law long few far fits_a fits_b =
    let past = has-history table longest index last form law long few far in
    let weights = (through_filter form (responses_of table) (pos index)).weights in
    let cs = all_chosen a b weights in
    let form_law : HasResponses (λ x. filter form (transform_of table x)) (through_filter form (responses_of table)) (length (rows_of table)) table.step =
    filter-keeps form (transform_of table) (responses_of table) (length (rows_of table)) table.step (table-law table law) in
    record {
      newest = past.newest;
      newest_is = past.is;
      fits = history-fits w cs past.newest (chosen-fit w a b weights fits_a fits_b);
      is = form_law.gives (samples (history past.newest cs)) (pos index)
          ∙ weighted_sum-same weights _ _ (λ k. ap (λ (z : ℤ). samples (history past.newest cs) (z -ℤ pos k)) past.is ∙ samples-history past.newest cs k (omega (arith, length-chosen a b weights, past.enough)))
          ∙ sum-chosen weights a b;
    }

-- the weights at an index so many whole rounds later
pub same-later : (table : Table) (form : List ℤ) (class : Class) (first rounds : ℕ) → IsLawful table
    → (through_filter form (responses_of table) (pos (first + rounds * (finer_classes (length (rows_of table)) class.modulus * class.modulus)))).weights
    ≡ (through_filter form (responses_of table) (pos first)).weights
same-later table form class first rounds law =
    let classes = length (rows_of table) in
    let transform : Sequence → Sequence = λ x. filter form (transform_of table x) in
    let form_law : HasResponses transform (through_filter form (responses_of table)) classes table.step = filter-keeps form (transform_of table) (responses_of table) classes table.step (table-law table law) in
    ap (λ (r : Response). r.weights) (later-at transform (through_filter form (responses_of table)) classes table.step form_law (finer_classes classes class.modulus * class.modulus)
    (class.modulus / gcd classes class.modulus) first rounds (common-turns classes class.modulus))

-- ---- the samples in their order

get_or-chosen : (a b : ℤ) (cs : List ℤ) (k : ℕ) → get_or (all_chosen a b cs) k (pos 0) ≡ chosen_for a b (get_or cs k (pos 0))
get_or-chosen a b [] k = refl
get_or-chosen a b (c ∷ cs) zero = refl
get_or-chosen a b (c ∷ cs) (suc k) = get_or-chosen a b cs k

listed-is : (n : ℕ) (f g : ℕ → ℤ) → ((k : ℕ) → f k ≡ g k) → listed n f ≡ tabulate n g
listed-is zero f g h = refl
listed-is (suc n) f g h = ap (λ (z : ℤ). z ∷ listed n (λ k. f (suc k))) (h zero) ∙ ap (λ (zs : List ℤ). g zero ∷ zs) (listed-is n (λ k. f (suc k)) (λ k. g (suc k)) (λ k. h (suc k)))

pub listed-same : (n : ℕ) (f g : ℕ → ℤ) → ((k : ℕ) → k < n → f k ≡ g k) → listed n f ≡ listed n g
listed-same zero f g h = refl
listed-same (suc n) f g h =
    ap (λ (z : ℤ). z ∷ listed n (λ k. f (suc k))) (h zero (omega arith)) ∙ ap (λ (zs : List ℤ). g zero ∷ zs) (listed-same n (λ k. f (suc k)) (λ k. g (suc k)) (λ k below. h (suc k) (omega arith)))

pub history-is : (table : Table) (w newest index : ℕ) (form : List ℤ) (high : Bool) → (responses_of table (pos index)).newest ≡ pos newest
    → history newest (all_chosen (near_end high w) (far_end high w) (through_filter form (responses_of table) (pos index)).weights) ≡ samples_at table w form high index
history-is table w newest index form high is =
    let weights = (through_filter form (responses_of table) (pos index)).weights in
    let count : size (responses_of table (pos index)).newest ≡ newest = ap size is in
    sym (listed-is (suc newest) (λ n. chosen_for (near_end high w) (far_end high w) (get_or weights (newest - n) (pos 0))) (λ n. get_or (all_chosen (near_end high w) (far_end high w) weights) (newest - n) (pos 0))
    (λ n. sym (get_or-chosen (near_end high w) (far_end high w) weights (newest - n))))
    ∙ ap (λ (m : ℕ). listed (suc m) (λ n. chosen_for (near_end high w) (far_end high w) (get_or weights (m - n) (pos 0)))) (sym count)

pub listed-push : (n : ℕ) (f : ℕ → ℤ) → listed (suc n) f ≡ listed n f ++ f n ∷ []
listed-push zero f = refl
listed-push (suc n) f = ap (λ (zs : List ℤ). f zero ∷ zs) (listed-push n (λ k. f (suc k)))

pub listed-reverse : (n : ℕ) (f : ℕ → ℤ) → reverse (listed n f) ≡ listed n (λ k. f (n - 1 - k))
listed-reverse zero f = refl
listed-reverse (suc n) f =
    let last : f n ≡ f (suc n - 1 - 0) = ap f (omega arith) in
    ap reverse (listed-push n f) ∙ reverse-append (listed n f) (f n ∷ [])
    ∙ ap (λ (zs : List ℤ). f n ∷ zs) (listed-reverse n f ∙ listed-same n (λ k. f (n - 1 - k)) (λ k. f (suc n - 1 - suc k)) (λ k below. ap f (omega arith)))
    ∙ ap (λ (z : ℤ). z ∷ listed n (λ k. f (suc n - 1 - suc k))) last
