-- Moving sums of rows, place by place.
use Rattle.std.proofs.Common.{◌≡◌, ℕ, zero, suc, ◌+◌, ◌*◌, ◌^◌, List, [], ◌∷◌, ◌++◌, length, refl, sym, ◌∙◌, ap, arith, subst, ℤ, pos, negsuc, ◌+ℤ◌, ◌-ℤ◌, ◌≤ℤ◌}
use Rattle.std.proofs.Math.Path.{fun_ext}
use Rattle.std.proofs.lemmas.Int.{ints}
use Rattle.mr_values.specs.Sequence.{samples}
use Rattle.mr_values.specs.Value.{size}
use Rattle.running_sums.specs.Weights.{behind}
use Rattle.running_sums.specs.Sums.{moving_sum, IsWithin, AreWithin}
use Rattle.running_sums.specs.Rows.{Response, AreOrdered, summed, summed_row, places, between, moved, delay, MovesRow, MovesWithin, StaysOrdered, RowsStayWithin}
use Rattle.running_sums.proofs.MovingLemmas.{samples-added, samples-behind, samples-none, runs_on, moving_sum-between}
use Rattle.running_sums.proofs.RangeLemmas.{sum_within, within_more}

-- ---- lists by their places

pub same_list : (a b : List ℤ) → length a ≡ length b → ((k : ℕ) → samples a (pos k) ≡ samples b (pos k)) → a ≡ b
same_list [] [] e h = refl
same_list [] (y ∷ ys) e h = absurd (omega (arith, e))
same_list (x ∷ xs) [] e h = absurd (omega (arith, e))
same_list (x ∷ xs) (y ∷ ys) e h =
    let short : length xs ≡ length ys = omega (arith, e) in
    let rest : xs ≡ ys = same_list xs ys short (λ k. h (suc k)) in
    ap (λ (z : ℤ). z ∷ xs) (h zero) ∙ ap (λ (zs : List ℤ). y ∷ zs) rest

pub places-same : (n : ℕ) (f g : ℕ → ℤ) → ((k : ℕ) → f k ≡ g k) → places n f ≡ places n g
places-same n f g h = ap (places n) (fun_ext h)

pub places-list : (w : List ℤ) → places (length w) (λ k. samples w (pos k)) ≡ w
places-list [] = refl
places-list (x ∷ xs) = ap (λ (zs : List ℤ). x ∷ zs) (places-list xs)

pub places-more : (n : ℕ) (f : ℕ → ℤ) → places (n + 1) f ≡ places n f ++ f n ∷ []
places-more zero f = refl
places-more (suc n) f = let e : suc n + 1 ≡ suc (n + 1) = omega arith in ap (λ (m : ℕ). places m f) e ∙ ap (λ (zs : List ℤ). f 0 ∷ zs) (places-more n (λ k. f (suc k)))

-- ---- a sum of rows at a sample

-- the weight that row n gives sample j
abbrev pub weight : (ℤ → Response) → ℤ → ℤ → ℤ
weight f j n = samples (f n).weights ((f n).newest -ℤ j)

pub size-gap : (a b : ℤ) → b ≤ℤ a → pos (size (a -ℤ b)) ≡ a -ℤ b
size-gap a b h = known (a -ℤ b) (omega (arith, ints, h))
  where
    known : (z : ℤ) → pos 0 ≤ℤ z → pos (size z) ≡ z
    known (pos n) low = refl
    known (negsuc n) low = absurd (omega (arith, ints, low))

-- the row at n, told from a sample on
row-place : (f : ℤ → Response) (newest n z : ℤ) → (f n).newest ≤ℤ newest → samples (f n).weights (z -ℤ pos (delay newest f n)) ≡ weight f (newest -ℤ z) n
row-place f newest n z le =
    let gap = size-gap newest (f n).newest le in
    let e : z -ℤ pos (size (newest -ℤ (f n).newest)) ≡ (f n).newest -ℤ (newest -ℤ z) = omega (arith, ints, gap) in
    ap (samples (f n).weights) e

pub sum-place : (f : ℤ → Response) (count : ℕ) (newest n z : ℤ) → AreOrdered f → (f n).newest ≤ℤ newest
    → samples (summed newest count f n) z ≡ moving_sum 1 count (weight f (newest -ℤ z)) n
sum-place f zero newest n z ordered le = samples-none z
sum-place f (suc count) newest n z ordered le =
    let before = ordered.each n 1 in
    let rest = sum-place f count newest (n -ℤ pos 1) z ordered (omega (arith, ints, before, le)) in
    let first = samples-behind (delay newest f n) (f n).weights z ∙ row-place f newest n z le in
    samples-added (behind (delay newest f n) (f n).weights) (summed newest count f (n -ℤ pos 1)) z
    ∙ ap (λ (y : ℤ). y +ℤ samples (summed newest count f (n -ℤ pos 1)) z) first
    ∙ ap (λ (y : ℤ). weight f (newest -ℤ z) n +ℤ y) rest

module _ (f : ℤ → Response) (count : ℕ) (n : ℤ) (ordered : AreOrdered f) where
  abbrev before : ℤ
  before = n -ℤ pos 1

  abbrev newest : ℤ
  newest = (f n).newest

  first-place : (k : ℕ) → samples (summed_row count f before).weights (pos k -ℤ pos (delay newest f before)) ≡ moving_sum 1 count (weight f (newest -ℤ pos k)) before
  first-place k =
      let gap = size-gap newest (f before).newest (ordered.each n 1) in
      let same : (f before).newest -ℤ (f before).newest ≡ pos 0 = omega (arith, ints) in
      let e : (f before).newest -ℤ (pos k -ℤ pos (delay newest f before)) ≡ newest -ℤ pos k = omega (arith, ints, gap) in
      sum-place f count (f before).newest before (pos k -ℤ pos (delay newest f before)) ordered (omega (arith, ints))
      ∙ ap (λ (j : ℤ). moving_sum 1 count (weight f j) before) e

  less-place : (k : ℕ) → samples (f (n -ℤ pos count)).weights (pos k -ℤ pos (delay newest f (n -ℤ pos count))) ≡ weight f (newest -ℤ pos k) (n -ℤ pos (count * 1))
  less-place k =
      let e : n -ℤ pos count ≡ n -ℤ pos (count * 1) = omega (arith, ints) in
      row-place f newest (n -ℤ pos count) (pos k) (ordered.each n count) ∙ ap (weight f (newest -ℤ pos k)) e

  more-place : (k : ℕ) → samples (f n).weights (pos k) ≡ weight f (newest -ℤ pos k) n
  more-place k = let e : pos k ≡ (f n).newest -ℤ (newest -ℤ pos k) = omega (arith, ints) in ap (samples (f n).weights) e

  sum-at : (k : ℕ) → samples (summed_row count f n).weights (pos k) ≡ moving_sum 1 count (weight f (newest -ℤ pos k)) n
  sum-at k = sum-place f count newest n (pos k) ordered (omega (arith, ints))

  between-at : (k : ℕ) → between (summed_row count f before).weights (delay newest f before) (f (n -ℤ pos count)).weights (delay newest f (n -ℤ pos count)) k
      ≡ moving_sum 1 count (weight f (newest -ℤ pos k)) before -ℤ weight f (newest -ℤ pos k) (n -ℤ pos (count * 1))
  between-at k =
      ap (λ (z : ℤ). z -ℤ samples (f (n -ℤ pos count)).weights (pos k -ℤ pos (delay newest f (n -ℤ pos count)))) (first-place k)
      ∙ ap (λ (z : ℤ). moving_sum 1 count (weight f (newest -ℤ pos k)) before -ℤ z) (less-place k)

  pub moved-at : (k : ℕ) → moved (summed_row count f before).weights (delay newest f before) (f (n -ℤ pos count)).weights (delay newest f (n -ℤ pos count)) (f n).weights k
      ≡ samples (summed_row count f n).weights (pos k)
  moved-at k = let a = between-at k in let b = more-place k in let c = runs_on 1 count (weight f (newest -ℤ pos k)) n in let d = sum-at k in omega (arith, ints, a, b, c, d)

pub moves_row : MovesRow
moves_row f count n ordered =
    places-same (length (summed_row count f n).weights) _ (λ k. samples (summed_row count f n).weights (pos k)) (moved-at f count n ordered) ∙ places-list (summed_row count f n).weights

weight-within : (f : ℤ → Response) (most : ℕ) → ((m : ℤ) → AreWithin most (f m).weights) → (j n : ℤ) → IsWithin most (weight f j n)
weight-within f most h j n = (h n).each ((f n).newest -ℤ j)

pub stays_ordered : StaysOrdered
stays_ordered f count ordered = record { each = λ n k. ordered.each n k }

pub rows_stay_within : RowsStayWithin
rows_stay_within f count most ordered h n = record { each = λ z. subst (IsWithin (count * most)) (sym (at z)) (sum_within 1 count most (weight f ((f n).newest -ℤ z)) (weight-within f most h ((f n).newest -ℤ z)) n) }
  where
    at : (z : ℤ) → samples (summed_row count f n).weights z ≡ moving_sum 1 count (weight f ((f n).newest -ℤ z)) n
    at z = sum-place f count (f n).newest n z ordered (omega (arith, ints))

pub moves_within : MovesWithin
moves_within f zero most n ordered some h room = absurd (omega (arith, some))
moves_within f (suc count) most n ordered some h room = record { before = before-fits; after = after-fits }
  where
    before-fits : (k : ℕ) → IsWithin (2 ^ 126) (between (summed_row (suc count) f (n -ℤ pos 1)).weights (delay (f n).newest f (n -ℤ pos 1)) (f (n -ℤ pos (suc count))).weights (delay (f n).newest f (n -ℤ pos (suc count))) k)
    before-fits k =
        let x = weight f ((f n).newest -ℤ pos k) in
        let is = between-at f (suc count) n ordered k ∙ moving_sum-between 1 count x n in
        subst (IsWithin (2 ^ 126)) (sym is) (within_more (count * most) (2 ^ 126) _ (omega (arith, room)) (sum_within 1 count most x (weight-within f most h ((f n).newest -ℤ pos k)) (n -ℤ pos 1)))

    after-fits : (k : ℕ) → IsWithin (2 ^ 126) (moved (summed_row (suc count) f (n -ℤ pos 1)).weights (delay (f n).newest f (n -ℤ pos 1)) (f (n -ℤ pos (suc count))).weights (delay (f n).newest f (n -ℤ pos (suc count))) (f n).weights k)
    after-fits k =
        subst (IsWithin (2 ^ 126)) (sym (moved-at f (suc count) n ordered k))
        (within_more (suc count * most) (2 ^ 126) _ room ((rows_stay_within f (suc count) most ordered h n).each (pos k)))

-- what one step of the loop reads
pub moved_parts : (sums : List ℤ) (ahead : ℕ) (less : List ℤ) (back : ℕ) (more : List ℤ) (k : ℕ) (sum old new : ℤ)
    → sum ≡ samples sums (pos k -ℤ pos ahead) → old ≡ samples less (pos k -ℤ pos back) → new ≡ samples more (pos k -ℤ pos 0)
    → (sum -ℤ old ≡ between sums ahead less back k) × ((sum -ℤ old) +ℤ new ≡ moved sums ahead less back more k)
moved_parts sums ahead less back more k sum old new s o n =
    let index : pos k -ℤ pos 0 ≡ pos k = omega (arith, ints) in
    let newer = n ∙ ap (samples more) index in
    (omega (arith, ints, s, o), omega (arith, ints, s, o, newer))
