-- A moving sum of rows that recur, by whole rounds of their classes.
use Rattle.std.proofs.Common.{◌≡◌, ℕ, zero, suc, ◌+◌, ◌*◌, max, List, length, refl, sym, ◌∙◌, ap, arith, ℤ, pos, ◌+ℤ◌, ◌-ℤ◌, ◌≤ℤ◌}
use Rattle.std.proofs.Math.Path.{fun_ext}
use Rattle.std.proofs.lemmas.Int.{ints}
use Rattle.mr_values.specs.Sequence.{Sequence, samples, ones}
use Rattle.mr_values.specs.Value.{size}
use Rattle.running_sums.specs.Weights.{added, behind, moving}
use Rattle.running_sums.specs.Sums.{moving_sum}
use Rattle.running_sums.specs.Rows.{Response, AreOrdered, summed, delay, full, trimmed, Recur, with_rounds, SumsRounds}
use Rattle.running_sums.proofs.MovingLemmas.{samples-added, samples-moving}
use Rattle.running_sums.proofs.RowLemmas.{weight, sum-place, places-same, same_list}
use Rattle.running_sums.proofs.CoverLemmas.{IsCover, cover-added, cover-behind, cover-ones, trimmed-cover, length-ones, length-added, length-behind_same}

-- ---- moving sums of a sequence

sum-append : (a b : ℕ) (x : Sequence) (n : ℤ) → moving_sum 1 (a + b) x n ≡ moving_sum 1 a x n +ℤ moving_sum 1 b x (n -ℤ pos a)
sum-append zero b x n =
    let count : 0 + b ≡ b = omega arith in
    let index : n ≡ n -ℤ pos 0 = omega (arith, ints) in
    let same = ap (λ (m : ℕ). moving_sum 1 m x n) count ∙ ap (moving_sum 1 b x) index in
    omega (arith, ints, same)
sum-append (suc a) b x n =
    let count : suc a + b ≡ suc (a + b) = omega arith in
    let index : (n -ℤ pos 1) -ℤ pos a ≡ n -ℤ pos (suc a) = omega (arith, ints) in
    let same = ap (λ (m : ℕ). moving_sum 1 m x n) count in
    let rest = sum-append a b x (n -ℤ pos 1) in
    let last = ap (moving_sum 1 b x) index in
    omega (arith, ints, same, rest, last)

sum-none : (c : ℕ) (n : ℤ) → moving_sum 1 c (λ m. pos 0) n ≡ pos 0
sum-none zero n = refl
sum-none (suc c) n = omega (arith, ints, sum-none c (n -ℤ pos 1))

sum-both : (c d : ℕ) (x y : Sequence) (n : ℤ) → moving_sum 1 c (λ m. x m +ℤ y (m -ℤ pos d)) n ≡ moving_sum 1 c x n +ℤ moving_sum 1 c y (n -ℤ pos d)
sum-both zero d x y n = refl
sum-both (suc c) d x y n =
    let index : (n -ℤ pos 1) -ℤ pos d ≡ (n -ℤ pos d) -ℤ pos 1 = omega (arith, ints) in
    let rest = sum-both c d x y (n -ℤ pos 1) in
    let same = ap (moving_sum 1 c y) index in
    omega (arith, ints, rest, same)

sum-rounds : (q c : ℕ) (x : Sequence) (n : ℤ) → moving_sum 1 (q * c) x n ≡ moving_sum 1 c (moving_sum c q x) n
sum-rounds zero c x n =
    let none : 0 * c ≡ 0 = omega arith in
    ap (λ (m : ℕ). moving_sum 1 m x n) none ∙ sym (sum-none c n)
sum-rounds (suc q) c x n =
    let count : suc q * c ≡ c + q * c = omega arith in
    ap (λ (m : ℕ). moving_sum 1 m x n) count
    ∙ sum-append c (q * c) x n
    ∙ ap (λ (z : ℤ). moving_sum 1 c x n +ℤ z) (sum-rounds q c x (n -ℤ pos c))
    ∙ sym (sum-both c c x (moving_sum c q x) n)

-- ---- rows

module _ (classes step : ℕ) (f : ℤ → Response) (recur : Recur classes step f) where
  round-before : (n : ℤ) → f n ≡ record { newest = (f (n -ℤ pos classes)).newest +ℤ pos step; weights = (f (n -ℤ pos classes)).weights }
  round-before n =
      let e : n ≡ (n -ℤ pos classes) +ℤ pos classes = omega (arith, ints) in
      ap f e ∙ recur.each (n -ℤ pos classes)

  rounds-weight : (q : ℕ) (j m : ℤ) → moving_sum step q (samples (f m).weights) ((f m).newest -ℤ j) ≡ moving_sum classes q (weight f j) m
  rounds-weight zero j m = refl
  rounds-weight (suc q) j m =
      let same = ap (λ (r : Response). r.weights) (round-before m) in
      let gap = ap (λ (r : Response). r.newest) (round-before m) in
      let index : ((f m).newest -ℤ j) -ℤ pos step ≡ (f (m -ℤ pos classes)).newest -ℤ j = omega (arith, ints, gap) in
      let rest = ap (λ (w : List ℤ). moving_sum step q (samples w) (((f m).newest -ℤ j) -ℤ pos step)) same
      ∙ ap (moving_sum step q (samples (f (m -ℤ pos classes)).weights)) index
      ∙ rounds-weight q j (m -ℤ pos classes) in
      ap (λ (z : ℤ). weight f j m +ℤ z) rest

  with_rounds-weight : (q : ℕ) (j m : ℤ) → weight (with_rounds q step f) j m ≡ moving_sum classes q (weight f j) m
  with_rounds-weight q j m = samples-moving step q (f m).weights ((f m).newest -ℤ j) ∙ rounds-weight q j m

  with_rounds-ordered : (q : ℕ) → AreOrdered f → AreOrdered (with_rounds q step f)
  with_rounds-ordered q h = record { each = λ n k. h.each n k }

  rounds-place : (q rest : ℕ) (n z : ℤ) → AreOrdered f
      → samples (summed (f n).newest (rest + q * classes) f n) z ≡ samples (added (summed (f n).newest rest f n) (summed (f n).newest classes (with_rounds q step f) (n -ℤ pos rest))) z
  rounds-place q rest n z ordered =
      let newest = (f n).newest in
      let x = weight f (newest -ℤ z) in
      let g = with_rounds q step f in
      let le : newest ≤ℤ newest = omega (arith, ints) in
      let all = sum-place f (rest + q * classes) newest n z ordered le in
      let first = sum-place f rest newest n z ordered le in
      let second = sum-place g classes newest (n -ℤ pos rest) z (with_rounds-ordered q ordered) (ordered.each n rest) in
      let same : moving_sum 1 classes (weight g (newest -ℤ z)) (n -ℤ pos rest) ≡ moving_sum 1 classes (moving_sum classes q x) (n -ℤ pos rest) =
      ap (λ (y : Sequence). moving_sum 1 classes y (n -ℤ pos rest)) (fun_ext (with_rounds-weight q (newest -ℤ z))) in
      let parts = sum-append rest (q * classes) x n in
      let turns = sum-rounds q classes x (n -ℤ pos rest) in
      let both = samples-added (summed newest rest f n) (summed newest classes g (n -ℤ pos rest)) z in
      omega (arith, ints, all, first, second, same, parts, turns, both)

-- ---- as lists

-- two such lists with one value at each place are the same
same_cover : (a b : List ℤ) → IsCover a → IsCover b → ((k : ℕ) → samples a (pos k) ≡ samples b (pos k)) → a ≡ b
same_cover a b h k e =
    let total = max (length a) (length b) in
    sym (trimmed-cover a total h (omega arith))
    ∙ ap trimmed (places-same total (λ i. samples a (pos i)) (λ i. samples b (pos i)) e)
    ∙ trimmed-cover b total k (omega arith)

cover-moving : (stride count : ℕ) (w : List ℤ) → IsCover w → IsCover (moving stride count w)
cover-moving stride zero w h = tt
cover-moving stride (suc count) w h = cover-added w (behind stride (moving stride count w)) h (cover-behind stride (moving stride count w) (cover-moving stride count w h))

cover-rows : (f : ℤ → Response) (count : ℕ) (newest n : ℤ) → ((m : ℤ) → IsCover (f m).weights) → IsCover (summed newest count f n)
cover-rows f zero newest n h = tt
cover-rows f (suc count) newest n h =
    cover-added (behind (delay newest f n) (f n).weights) (summed newest count f (n -ℤ pos 1)) (cover-behind (delay newest f n) (f n).weights (h n)) (cover-rows f count newest (n -ℤ pos 1) h)

length-added_same : (a b c d : List ℤ) → length a ≡ length c → length b ≡ length d → length (added a b) ≡ length (added c d)
length-added_same a b c d e g = omega (arith, e, g, length-added a b, length-added c d)

length-moving_same : (stride count : ℕ) (v w : List ℤ) → length v ≡ length w → length (moving stride count v) ≡ length (moving stride count w)
length-moving_same stride zero v w e = refl
length-moving_same stride (suc count) v w e =
    length-added_same v (behind stride (moving stride count v)) w (behind stride (moving stride count w)) e
    (length-behind_same stride (moving stride count v) (moving stride count w) (length-moving_same stride count v w e))

-- rows with one newest sample and one length each
length-alike : (f g : ℤ → Response) (count : ℕ) (newest n : ℤ) → ((m : ℤ) → (f m).newest ≡ (g m).newest) → ((m : ℤ) → length (f m).weights ≡ length (g m).weights)
    → length (summed newest count f n) ≡ length (summed newest count g n)
length-alike f g zero newest n h e = refl
length-alike f g (suc count) newest n h e =
    let d = ap (λ (z : ℤ). length (behind (size (newest -ℤ z)) (f n).weights)) (h n) in
    let first = d ∙ length-behind_same (delay newest g n) (f n).weights (g n).weights (e n) in
    length-added_same (behind (delay newest f n) (f n).weights) (summed newest count f (n -ℤ pos 1)) (behind (delay newest g n) (g n).weights) (summed newest count g (n -ℤ pos 1)) first
    (length-alike f g count newest (n -ℤ pos 1) h e)

full-recur : (classes step : ℕ) (f : ℤ → Response) → Recur classes step f → Recur classes step (full f)
full-recur classes step f h = record { each = λ n. ap (λ (r : Response). record { newest = r.newest; weights = ones (length r.weights) }) (h.each n) }

pub sums_rounds : SumsRounds
sums_rounds f classes step rounds rest n ordered recur =
    let newest = (f n).newest in
    let h = full f in
    let g = with_rounds rounds step f in
    let k = with_rounds rounds step h in
    let h-ordered : AreOrdered h = record { each = λ m i. ordered.each m i } in
    let h-cover = λ (m : ℤ). cover-ones (length (f m).weights) in
    let k-cover = λ (m : ℤ). cover-moving step rounds (h m).weights (h-cover m) in
    let left = summed newest (rest + rounds * classes) h n in
    let right = added (summed newest rest h n) (summed newest classes k (n -ℤ pos rest)) in
    let covers : left ≡ right =
    same_cover left right (cover-rows h (rest + rounds * classes) newest n h-cover)
    (cover-added (summed newest rest h n) (summed newest classes k (n -ℤ pos rest)) (cover-rows h rest newest n h-cover) (cover-rows k classes newest (n -ℤ pos rest) k-cover))
    (λ i. rounds-place classes step h (full-recur classes step f recur) rounds rest n (pos i) h-ordered) in
    let h-same = λ (m : ℤ). length-ones (length (f m).weights) in
    let g-same = λ (m : ℤ). length-moving_same step rounds (h m).weights (f m).weights (h-same m) in
    let lefts = length-alike h f (rest + rounds * classes) newest n (λ m. refl) h-same in
    let rights = length-added_same (summed newest rest h n) (summed newest classes k (n -ℤ pos rest)) (summed newest rest f n) (summed newest classes g (n -ℤ pos rest))
    (length-alike h f rest newest n (λ m. refl) h-same) (length-alike k g classes newest (n -ℤ pos rest) (λ m. refl) g-same) in
    same_list (summed newest (rest + rounds * classes) f n) (added (summed newest rest f n) (summed newest classes g (n -ℤ pos rest)))
    (sym lefts ∙ ap length covers ∙ rights)
    (λ i. rounds-place classes step f recur rounds rest n (pos i) ordered)
