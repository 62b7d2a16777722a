-- The sum of the registers of all runs, and between which ends its parts lie.
use Rattle.std.proofs.Common.{◌≡◌, ℕ, zero, suc, ◌+◌, ◌*◌, ◌^◌, ◌≤◌, ◌<◌, List, [], ◌∷◌, ◌++◌, length, take, drop, get_or, refl, sym, ◌∙◌, ap, subst, arith, Some, slice_get, Bool, false, cond, ℤ, pos, negsuc, ◌+ℤ◌, ◌≤ℤ◌}
use Rattle.std.proofs.lemmas.Int.{ints}
use Rattle.std.proofs.lemmas.List.{take_all, take_more}
use Rattle.std.proofs.lemmas.Option.{slice_get-get_or}
use Rattle.mr_values.specs.Sequence.{weighted_sum}
use Rattle.mr_values.specs.Timing.{low_end, high_end}
use Rattle.mr_values.specs.Width.{FitsWidth, IsLeastWidth}
use Rattle.net_graph.specs.declared.cell.Leaf.{Leaf}
use Rattle.net_graph.specs.Cut.{Cut, IsCut}
use Rattle.net_graph.specs.Run.{Values}
use Rattle.pipeline_balance.specs.Leaves.{all_negative, held_sum, leaf_value, segment, signed_by, signed_sum}
use Rattle.pipeline_balance.specs.Tree.{SumsFitAt, count_to}
use Rattle.pipeline_balance.proofs.SegmentLemmas.{count_to-mono, signed_sum-append}
use Rattle.span_ranges.proofs.SumLemmas.{high_end-turned}
use Rattle.bit_serial.specs.Ends.{AllWithin}
use Rattle.bit_serial.specs.Tables.{run, sum_of_runs}
use Rattle.bit_serial.proofs.EndLemmas.{ends_law}
use Rattle.bit_serial.proofs.TableLemmas.{runs_law}
use Rattle.distributed_table.proofs.ChoiceLemmas.{fits_between}
use Rattle.distributed_table.proofs.EndLemmas.{run_within}

-- ---- leaves that are added

abbrev pub AreAdded : List Leaf → Type 0
AreAdded [] = Unit {0}
AreAdded (leaf ∷ leaves) = (leaf.negative ≡ false) × AreAdded leaves

pub are_added : (leaves : List Leaf) → ((k : ℕ) (leaf : Leaf) → slice_get leaves k ≡ Some leaf → leaf.negative ≡ false) → AreAdded leaves
are_added [] h = tt
are_added (leaf ∷ leaves) h = (h 0 leaf refl, are_added leaves (λ k found is. h (suc k) found is))

added_take : (n : ℕ) (leaves : List Leaf) → AreAdded leaves → AreAdded (take n leaves)
added_take zero leaves h = tt
added_take (suc n) [] h = tt
added_take (suc n) (leaf ∷ leaves) h = (h.0, added_take n leaves h.1)

added_drop : (n : ℕ) (leaves : List Leaf) → AreAdded leaves → AreAdded (drop n leaves)
added_drop zero leaves h = h
added_drop (suc n) [] h = tt
added_drop (suc n) (leaf ∷ leaves) h = added_drop n leaves h.1

not_negative : (leaf : Leaf) (leaves : List Leaf) → leaf.negative ≡ false → all_negative (leaf ∷ leaves) ≡ false
not_negative leaf leaves e = ap (λ (b : Bool). cond b (all_negative leaves) false) e

pub some_added : (leaves : List Leaf) → 1 ≤ length leaves → AreAdded leaves → all_negative leaves ≡ false
some_added [] some h = absurd (omega arith)
some_added (leaf ∷ leaves) some h = not_negative leaf leaves h.0

held_is : (v : Values) (t : ℕ) (leaves : List Leaf) → AreAdded leaves → held_sum v t leaves ≡ signed_sum v t leaves
held_is v t [] h = refl
held_is v t (leaf ∷ leaves) h = ap (λ (b : Bool). signed_by b (signed_sum v t (leaf ∷ leaves))) (not_negative leaf leaves h.0)

-- ---- parts of a sum

abbrev low_part : ℤ → ℤ
low_part (pos n) = pos 0
low_part (negsuc n) = negsuc n

abbrev high_part : ℤ → ℤ
high_part (pos n) = pos n
high_part (negsuc n) = pos 0

parts : (z : ℤ) → (low_part z ≤ℤ z) × (z ≤ℤ high_part z) × (low_part z ≤ℤ pos 0) × (pos 0 ≤ℤ high_part z)
parts (pos n) = (omega (arith, ints), omega (arith, ints), omega (arith, ints), omega (arith, ints))
parts (negsuc n) = (omega (arith, ints), omega (arith, ints), omega (arith, ints), omega (arith, ints))

low_part_above : (z low : ℤ) → low ≤ℤ z → low ≤ℤ pos 0 → low ≤ℤ low_part z
low_part_above (pos n) low h n0 = n0
low_part_above (negsuc n) low h n0 = h

high_part_below : (z high : ℤ) → z ≤ℤ high → pos 0 ≤ℤ high → high_part z ≤ℤ high
high_part_below (pos n) high h n0 = h
high_part_below (negsuc n) high h n0 = n0

module _ (v : Values) (t : ℕ) where
  abbrev lows : List Leaf → ℤ
  lows [] = pos 0
  lows (leaf ∷ leaves) = low_part (leaf_value v t leaf) +ℤ lows leaves

  abbrev tops : List Leaf → ℤ
  tops [] = pos 0
  tops (leaf ∷ leaves) = high_part (leaf_value v t leaf) +ℤ tops leaves

  around : (leaves : List Leaf) → (lows leaves ≤ℤ pos 0) × (pos 0 ≤ℤ tops leaves)
  around [] = (omega (arith, ints), omega (arith, ints))
  around (leaf ∷ leaves) = let p = parts (leaf_value v t leaf) in let rest = around leaves in (omega (arith, ints, p.2, rest.0), omega (arith, ints, p.3, rest.1))

  between_take : (n : ℕ) (leaves : List Leaf) → (lows leaves ≤ℤ signed_sum v t (take n leaves)) × (signed_sum v t (take n leaves) ≤ℤ tops leaves)
  between_take zero leaves = around leaves
  between_take (suc n) [] = (omega (arith, ints), omega (arith, ints))
  between_take (suc n) (leaf ∷ leaves) = let p = parts (leaf_value v t leaf) in let rest = between_take n leaves in (omega (arith, ints, p.0, rest.0), omega (arith, ints, p.1, rest.1))

  between_drop : (n : ℕ) (leaves : List Leaf) → (lows leaves ≤ℤ lows (drop n leaves)) × (tops (drop n leaves) ≤ℤ tops leaves)
  between_drop zero leaves = (omega (arith, ints), omega (arith, ints))
  between_drop (suc n) [] = (omega (arith, ints), omega (arith, ints))
  between_drop (suc n) (leaf ∷ leaves) = let p = parts (leaf_value v t leaf) in let rest = between_drop n leaves in (omega (arith, ints, p.2, rest.0), omega (arith, ints, p.3, rest.1))

  lows-append : (xs ys : List Leaf) → lows (xs ++ ys) ≡ lows xs +ℤ lows ys
  lows-append [] ys = omega (arith, ints)
  lows-append (x ∷ xs) ys = let rest = lows-append xs ys in omega (arith, ints, rest)

  tops-append : (xs ys : List Leaf) → tops (xs ++ ys) ≡ tops xs +ℤ tops ys
  tops-append [] ys = omega (arith, ints)
  tops-append (x ∷ xs) ys = let rest = tops-append xs ys in omega (arith, ints, rest)

-- ---- ends by runs

low_end-split : (a g : ℕ) (cs : List ℤ) (low high : ℤ) → low_end (take (a + g) cs) low high ≡ low_end (take a cs) low high +ℤ low_end (take g (drop a cs)) low high
low_end-split zero g cs low high = let place : zero + g ≡ g = omega arith in rw place (omega (arith, ints))
low_end-split (suc a) g [] low high = omega (arith, ints, none (suc a + g), none g)
  where
    none : (n : ℕ) → low_end (take n []) low high ≡ pos 0
    none zero = refl
    none (suc n) = refl
low_end-split (suc a) g (c ∷ cs) low high =
    let place : suc a + g ≡ suc (a + g) = omega arith in
    rw place (let rest = low_end-split a g cs low high in omega (arith, ints, rest))

zeros : (cs : List ℤ) → weighted_sum cs (λ k. pos 0) ≡ pos 0
zeros [] = refl
zeros (c ∷ cs) = let rest = zeros cs in omega (arith, ints, rest)

ends_around : (cs : List ℤ) (low high : ℤ) → low ≤ℤ pos 0 → pos 0 ≤ℤ high → (low_end cs low high ≤ℤ pos 0) × (pos 0 ≤ℤ high_end cs low high)
ends_around cs low high n p = let e = ends_law cs low high (λ k. pos 0) (λ k inside. (n, p)) in let z = zeros cs in (omega (arith, ints, e.0, z), omega (arith, ints, e.1, z))

no_leaf : Leaf
no_leaf = record { node = record { place = 0 }; place = 0; negative = false }

module _ (v : Values) (t g : ℕ) (taps : List ℤ) (x : ℕ → ℤ) (low high : ℤ) (negative : low ≤ℤ pos 0) (positive : pos 0 ≤ℤ high) (within : AllWithin taps low high x) (leaves : List Leaf)
    (each : (k : ℕ) (leaf : Leaf) → slice_get leaves k ≡ Some leaf → leaf_value v t leaf ≡ weighted_sum (run g taps k) (λ i. x (k * g + i))) where
  one : (k : ℕ) → k < length leaves → leaf_value v t (get_or leaves k no_leaf) ≡ weighted_sum (run g taps k) (λ i. x (k * g + i))
  one k less = each k (get_or leaves k no_leaf) (slice_get-get_or leaves k no_leaf less)

  ends : (k : ℕ) → (low_end (run g taps k) low high ≤ℤ weighted_sum (run g taps k) (λ i. x (k * g + i))) × (weighted_sum (run g taps k) (λ i. x (k * g + i)) ≤ℤ high_end (run g taps k) low high)
  ends k = ends_law (run g taps k) low high (λ i. x (k * g + i)) (run_within g taps low high x k within)

  sum_taken : (k : ℕ) → k ≤ length leaves → signed_sum v t (take k leaves) ≡ sum_of_runs g taps x k
  sum_taken zero h = refl
  sum_taken (suc k) h =
      let next : suc k ≡ k + 1 = omega arith in
      let more = ap (λ (n : ℕ). take n leaves) next ∙ take_more leaves k no_leaf (omega arith) in
      let rest = sum_taken k (omega arith) in
      let last = one k (omega arith) in
      let split = signed_sum-append v t (take k leaves) (get_or leaves k no_leaf ∷ []) in
      ap (signed_sum v t) more ∙ split ∙ omega (arith, ints, rest, last)

  low_taken : (k : ℕ) → k ≤ length leaves → low_end (take (k * g) taps) low high ≤ℤ lows v t (take k leaves)
  low_taken zero h = let none : 0 * g ≡ 0 = omega arith in rw none (omega (arith, ints))
  low_taken (suc k) h =
      let next : suc k ≡ k + 1 = omega arith in
      let more = ap (lows v t) (ap (λ (n : ℕ). take n leaves) next ∙ take_more leaves k no_leaf (omega arith)) ∙ lows-append v t (take k leaves) (get_or leaves k no_leaf ∷ []) in
      let place : suc k * g ≡ k * g + g = omega arith in
      let split = ap (λ (n : ℕ). low_end (take n taps) low high) place ∙ low_end-split (k * g) g taps low high in
      let rest = low_taken k (omega arith) in
      let above : low_end (run g taps k) low high ≤ℤ leaf_value v t (get_or leaves k no_leaf) = let e = ends k in let o = one k (omega arith) in omega (arith, ints, e.0, o) in
      let last = low_part_above (leaf_value v t (get_or leaves k no_leaf)) (low_end (run g taps k) low high) above (ends_around (run g taps k) low high negative positive).0 in
      omega (arith, ints, more, split, rest, last)

  high_taken : (k : ℕ) → k ≤ length leaves → tops v t (take k leaves) ≤ℤ low_end (take (k * g) taps) high low
  high_taken zero h = let none : 0 * g ≡ 0 = omega arith in rw none (omega (arith, ints))
  high_taken (suc k) h =
      let next : suc k ≡ k + 1 = omega arith in
      let more = ap (tops v t) (ap (λ (n : ℕ). take n leaves) next ∙ take_more leaves k no_leaf (omega arith)) ∙ tops-append v t (take k leaves) (get_or leaves k no_leaf ∷ []) in
      let place : suc k * g ≡ k * g + g = omega arith in
      let split = ap (λ (n : ℕ). low_end (take n taps) high low) place ∙ low_end-split (k * g) g taps high low in
      let rest = high_taken k (omega arith) in
      let turned = high_end-turned (run g taps k) low high in
      let below : leaf_value v t (get_or leaves k no_leaf) ≤ℤ high_end (run g taps k) low high = let e = ends k in let o = one k (omega arith) in omega (arith, ints, e.1, o) in
      let last = high_part_below (leaf_value v t (get_or leaves k no_leaf)) (high_end (run g taps k) low high) below (ends_around (run g taps k) low high negative positive).1 in
      omega (arith, ints, more, split, rest, last, turned)

  module _ (covers : length taps ≤ length leaves * g) where
    all_leaves : take (length leaves) leaves ≡ leaves
    all_leaves = take_all (length leaves) leaves (omega arith)

    all_taps : take (length leaves * g) taps ≡ taps
    all_taps = take_all (length leaves * g) taps covers

    pub total_is : signed_sum v t leaves ≡ weighted_sum taps x
    total_is = ap (signed_sum v t) (sym all_leaves) ∙ sum_taken (length leaves) (omega arith) ∙ runs_law g taps x (length leaves) covers

    total_low : low_end taps low high ≤ℤ lows v t leaves
    total_low = let h = low_taken (length leaves) (omega arith) in let a = ap (lows v t) all_leaves in let b = ap (λ (cs : List ℤ). low_end cs low high) all_taps in omega (arith, ints, h, a, b)

    total_high : tops v t leaves ≤ℤ low_end taps high low
    total_high = let h = high_taken (length leaves) (omega arith) in let a = ap (tops v t) all_leaves in let b = ap (λ (cs : List ℤ). low_end cs high low) all_taps in omega (arith, ints, h, a, b)

    pub segment_fits : (width : ℕ) → IsLeastWidth (low_end taps low high) (low_end taps high low) width → AreAdded leaves → (level j : ℕ) → FitsWidth width (held_sum v t (segment level j leaves))
    segment_fits width w added level j =
        let left : List Leaf = drop (j * 2 ^ level) leaves in
        let part : List Leaf = take (2 ^ level) left in
        let a = between_take v t (2 ^ level) left in
        let b = between_drop v t (j * 2 ^ level) leaves in
        let is = held_is v t part (added_take (2 ^ level) left (added_drop (j * 2 ^ level) leaves added)) in
        let low_all = total_low in
        let high_all = total_high in
        subst (FitsWidth width) (sym is) (fits_between width _ (signed_sum v t part) _ w.holds_low w.holds_high (omega (arith, ints, a.0, b.0, low_all)) (omega (arith, ints, a.1, b.1, high_all)))

    -- so each register of the tree holds its sum
    pub registers_fit : (cut : Cut) → IsCut cut → (width levels : ℕ) (widths : List ℕ) → 1 ≤ width → IsLeastWidth (low_end taps low high) (low_end taps high low) width → AreAdded leaves → length widths ≡ count_to (length leaves) levels → ((k : ℕ) → k < length widths → get_or widths k 0 ≡ width) → SumsFitAt cut v leaves widths levels t
    registers_fit cut law width levels widths wide w added many alike level j less within =
        let mono = count_to-mono (length leaves) (suc level) levels less in
        let place : count_to (length leaves) level + j < length widths = omega (arith, many, mono) in
        let own = alike (count_to (length leaves) level + j) place in
        let sum : ℤ = held_sum v t (segment (suc level) j leaves) in
        ap (λ (k : ℕ). cut false k sum) own ∙ law.fitting false width sum wide (segment_fits width w added (suc level) j)
