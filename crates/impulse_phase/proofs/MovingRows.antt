-- Moving sums of the rows of a table.
use Rattle.std.proofs.Common.{◌≡◌, ℕ, zero, suc, ◌+◌, ◌-◌, ◌*◌, ◌/◌, ◌%◌, ◌^◌, ◌<◌, ◌≤◌, List, [], ◌∷◌, length, map, get_or, ℤ, pos, negsuc, ◌+ℤ◌, ◌-ℤ◌, ◌*ℤ◌, unsigned_abs, arith, add-mul, mul_assoc, refl, sym, ◌∙◌, ap, subst}
use Rattle.std.proofs.Math.Path.{fun_ext}
use Rattle.std.proofs.Math.Nat.{mul-le-mul_right, mul_comm}
use Rattle.std.proofs.lemmas.Int.{ints}
use Rattle.std.proofs.lemmas.List.{length-map}
use Rattle.std.proofs.lemmas.Nat.{div-add-mod'}
use Rattle.mr_values.specs.Sequence.{Sequence, samples, ones}
use Rattle.mr_values.specs.Value.{size}
use Rattle.running_sums.specs.Sums.{IsWithin, AreWithin}
use Rattle.running_sums.specs.Weights.{added, behind, moving}
use Rattle.running_sums.specs.Rows.{Response, AreOrdered, Recur, summed, summed_row, places, moved, moved_cover, HasRoom, IsRoomy, delay, full, full_row, with_rounds}
use Rattle.running_sums.proofs.MovingLemmas.{samples-added, samples-behind}
use Rattle.running_sums.proofs.RowLemmas.{moves_row, moves_within}
use Rattle.running_sums.proofs.CoverLemmas.{moves_cover, covers_all}
use Rattle.running_sums.proofs.RoundLemmas.{sums_rounds}
use Rattle.running_sums.proofs.TrimLemmas.{ones-within, covers_within}
use Rattle.running_sums.proofs.PartLemmas.{parts_within, rounds_within, are_roomy}
use Rattle.impulse_phase.specs.declared.table.Row.{Row}
use Rattle.impulse_phase.specs.declared.table.Response.{Response as Table}
use Rattle.impulse_phase.specs.Gain.{HasGain}
use Rattle.impulse_phase.specs.Response.{Responses, respond, scaled, combined, through_filter, HasResponses, Cycle}
use Rattle.impulse_phase.specs.Reading.{as_response, silent, rows_of, responses_of, IsTable, Passes, IsPlaceBefore}
use Rattle.impulse_phase.specs.Summed.{gap, IsTurn, HasRowsWithin, with_part, whole}
use Rattle.impulse_phase.proofs.Gain.{unsigned_abs-get_or}
use Rattle.impulse_phase.proofs.Tables.{AreRows, before_is, delay_is, told_here, row_at, row_of, count_of, table_after}

pub are_ordered : (table : Table) → IsTable table → AreOrdered (responses_of table)
are_ordered table h = record { each = h.law.ordered }

pub do_recur : (table : Table) → IsTable table → Recur (length (rows_of table)) table.step (responses_of table)
do_recur table h = record { each = h.law.recurs }

-- ---- a filter of ones

scaled-one : (w : List ℤ) → scaled (pos 1) w ≡ w
scaled-one [] = refl
scaled-one (x ∷ xs) =
    let first : pos 1 *ℤ x ≡ x = omega (arith, ints) in
    ap (λ (z : ℤ). z ∷ scaled (pos 1) xs) first ∙ ap (λ (zs : List ℤ). x ∷ zs) (scaled-one xs)

combined-summed : (f : Responses) (width : ℕ) (newest n : ℤ) → combined newest (ones width) (λ k. f (n -ℤ pos k)) ≡ summed newest width f n
combined-summed f zero newest n = refl
combined-summed f (suc width) newest n =
    let start : n -ℤ pos 0 ≡ n = omega (arith, ints) in
    let index : (λ (k : ℕ). f (n -ℤ pos (suc k))) ≡ (λ (k : ℕ). f ((n -ℤ pos 1) -ℤ pos k)) = fun_ext (λ k. let e : n -ℤ pos (suc k) ≡ (n -ℤ pos 1) -ℤ pos k = omega (arith, ints) in ap f e) in
    let rest = ap (combined newest (ones width)) index ∙ combined-summed f width newest (n -ℤ pos 1) in
    let first = ap (λ (r : Response). scaled (pos 1) (behind (size (newest -ℤ r.newest)) r.weights)) (ap f start) ∙ scaled-one (behind (delay newest f n) (f n).weights) in
    ap (λ (a : List ℤ). added a (combined newest (ones width) (λ k. f (n -ℤ pos (suc k))))) first ∙ ap (added (behind (delay newest f n) (f n).weights)) rest

-- a filter of ones gives the moving sums of the rows
pub sum_of_ones : (f : Responses) (width : ℕ) (n : ℤ) → through_filter (ones width) f n ≡ summed_row width f n
sum_of_ones f width n = ap (λ (w : List ℤ). record { newest = (f n).newest; weights = w }) (combined-summed f width (f n).newest n)

-- ---- what a sum loses

pub turn_is : (table : Table) (width index class rounds : ℕ) (here last row : Row) → 1 ≤ index → index < length (rows_of table) → IsPlaceBefore (length (rows_of table)) index width class rounds
    → get_or (rows_of table) index silent ≡ as_response here → get_or (rows_of table) (index - 1) silent ≡ as_response last → get_or (rows_of table) class silent ≡ as_response row
    → IsTurn table width index (here.newest - last.newest) class (here.newest + rounds * table.step - row.newest)
turn_is table width index class rounds here last row later below place is_here is_last is_row =
    let rows = rows_of table in
    let one : IsPlaceBefore (length rows) index 1 (index - 1) 0 = record { below = omega arith; few = omega arith; is = omega arith } in
    record {
      before = delay_is rows table.step index 1 (index - 1) 0 (as_response here) (as_response last) here.newest last.newest below one is_here is_last refl refl ∙ omega arith;
      below = place.below;
      row = ap (λ (r : Response). r.weights) (before_is rows table.step index width class rounds (as_response row) place is_row) ∙ sym (ap (λ (r : Response). r.weights) is_row);
      behind = delay_is rows table.step index width class rounds (as_response here) (as_response row) here.newest row.newest below place is_here is_row refl refl;
    }

-- ---- how great sums are

pub behind_within : (most d : ℕ) (w : List ℤ) → AreWithin most w → AreWithin most (behind d w)
behind_within most d w h = record { each = λ n. subst (IsWithin most) (sym (samples-behind d w n)) (h.each (n -ℤ pos d)) }

pub added_within : (a b : ℕ) (v w : List ℤ) → AreWithin a v → AreWithin b w → AreWithin (a + b) (added v w)
added_within a b v w h k = record { each = at }
  where
    at : (n : ℤ) → IsWithin (a + b) (samples (added v w) n)
    at n =
        let first = h.each n in
        let second = k.each n in
        let is = samples-added v w n in
        record { low = omega (arith, ints, first.low, second.low, is); high = omega (arith, ints, first.high, second.high, is) }

none_within : AreWithin 0 []
none_within = record { each = at }
  where
    at : (n : ℤ) → IsWithin 0 (samples [] n)
    at (pos n) = record { low = omega (arith, ints); high = omega (arith, ints) }
    at (negsuc n) = record { low = omega (arith, ints); high = omega (arith, ints) }

abs_within : (most : ℕ) (z : ℤ) → unsigned_abs z ≤ most → IsWithin most z
abs_within most (pos n) h = record { low = omega (arith, ints); high = omega (arith, ints, h) }
abs_within most (negsuc n) h = record { low = omega (arith, ints, h); high = omega (arith, ints) }

-- a weight is at most what they all come to
pub rows_within : (table : Table) (gain : ℕ) → HasGain (responses_of table) gain → HasRowsWithin table gain
rows_within table gain h n = record { each = at }
  where
    at : (k : ℤ) → IsWithin gain (samples (responses_of table n).weights k)
    at (pos k) = abs_within gain (samples (responses_of table n).weights (pos k)) (omega (arith, unsigned_abs-get_or (responses_of table n).weights k, h n))
    at (negsuc k) = record { low = omega (arith, ints); high = omega (arith, ints) }

-- there is room for one more row
pub row_room : (table : Table) (rounds most limit d : ℕ) (n : ℤ) (row weights sums : List ℤ) → HasRowsWithin table most → AreWithin limit sums → rounds * most + limit ≤ 2 ^ 126
    → row ≡ (responses_of table n).weights → weights ≡ moving table.step rounds row → IsRoomy (added (behind d weights) sums)
row_room table rounds most limit d n row weights sums h k room is are =
    let within = rounds_within (responses_of table) rounds table.step most h n in
    let e : weights ≡ moving table.step rounds (responses_of table n).weights = are ∙ ap (moving table.step rounds) is in
    are_roomy (added (behind d weights) sums) (rounds * most + limit)
    (added_within (rounds * most) limit (behind d weights) sums (behind_within (rounds * most) d weights (subst (AreWithin (rounds * most)) (sym e) within)) k) room

-- ---- what the code reads

pub read_row : (table : Table) (back class rounds : ℕ) (row : Row) → IsPlaceBefore (length (rows_of table)) 0 back class rounds → row ≡ get_or table.rows.items class row
    → row.weights.items ≡ (responses_of table (pos 0 -ℤ pos back)).weights
read_row table back class rounds row place is =
    let below : class < length table.rows.items = omega (arith, place.below, count_of table) in
    ap (λ (r : Response). r.weights) (sym (before_is (rows_of table) table.step 0 back class rounds (as_response row) place (row_of table class row below is)))

pub read_gap : (table : Table) (back class rounds : ℕ) (row here : Row) → IsPlaceBefore (length (rows_of table)) 0 back class rounds → row ≡ get_or table.rows.items class row
    → here ≡ get_or table.rows.items 0 here → gap table (pos 0) (pos 0 -ℤ pos back) ≡ here.newest + rounds * table.step - row.newest
read_gap table back class rounds row here place is is_here =
    let some : 0 < length (rows_of table) = omega (arith, place.below) in
    let below : class < length table.rows.items = omega (arith, place.below, count_of table) in
    let first : 0 < length table.rows.items = omega (arith, place.below, count_of table) in
    delay_is (rows_of table) table.step 0 back class rounds (as_response here) (as_response row) here.newest row.newest some place (row_of table 0 here first is_here) (row_of table class row below is) refl refl

pub read_room : (table : Table) (back rounds most limit : ℕ) (row : List ℤ) → HasRowsWithin table most → row ≡ (responses_of table (pos 0 -ℤ pos back)).weights → rounds * most + limit ≤ 2 ^ 126
    → (m : ℕ) × AreWithin m row × (rounds * m ≤ 2 ^ 126)
read_room table back rounds most limit row rows is room = (most, subst (AreWithin most) (sym is) (rows (pos 0 -ℤ pos back)), omega (arith, room))

-- ---- rows added to a sum

added-assoc : (a b c : List ℤ) → added (added a b) c ≡ added a (added b c)
added-assoc [] b c = refl
added-assoc (x ∷ xs) [] c = refl
added-assoc (x ∷ xs) (y ∷ ys) [] = refl
added-assoc (x ∷ xs) (y ∷ ys) (z ∷ zs) =
    let head : (x +ℤ y) +ℤ z ≡ x +ℤ (y +ℤ z) = omega (arith, ints) in
    ap (λ (v : ℤ). v ∷ added (added xs ys) zs) head ∙ ap (λ (vs : List ℤ). (x +ℤ (y +ℤ z)) ∷ vs) (added-assoc xs ys zs)

pub part_none : (table : Table) (back rounds count : ℕ) (sums : List ℤ) → sums ≡ with_part table (back + count) rounds (count - count) sums
part_none table back rounds count sums =
    let none : 0 ≡ count - count = omega arith in
    ap (λ (n : ℕ). with_part table (back + count) rounds n sums) none

pub part_all : (table : Table) (back rounds count left : ℕ) (all sums : List ℤ) → left ≡ 0 → all ≡ with_part table (back + left) rounds (count - left) sums → all ≡ with_part table back rounds count sums
part_all table back rounds count left all sums none is =
    let first : back + left ≡ back = omega arith in
    let second : count - left ≡ count = omega arith in
    is ∙ ap (λ (n : ℕ). with_part table n rounds (count - left) sums) first ∙ ap (λ (n : ℕ). with_part table back rounds n sums) second

pub part_more : (table : Table) (back rounds count left k : ℕ) (all next sums : List ℤ) → left ≡ k + 1 → left ≤ count → all ≡ with_part table (back + left) rounds (count - left) sums
    → next ≡ added (behind (delay (responses_of table (pos 0)).newest (responses_of table) (pos 0 -ℤ pos (back + k))) (moving table.step rounds (responses_of table (pos 0 -ℤ pos (back + k))).weights)) all
    → next ≡ with_part table (back + k) rounds (count - k) sums
part_more table back rounds count left k all next sums e within is more =
    let f = responses_of table in
    let newest = (f (pos 0)).newest in
    let g = with_rounds rounds table.step f in
    let here = pos 0 -ℤ pos (back + k) in
    let first = behind (delay newest f here) (moving table.step rounds (f here).weights) in
    let index : pos 0 -ℤ pos (back + left) ≡ here -ℤ pos 1 = omega (arith, ints, e) in
    let size : suc (count - left) ≡ count - k = omega arith in
    more ∙ ap (added first) (is ∙ ap (λ (z : ℤ). added (summed newest (count - left) g z) sums) index)
    ∙ sym (added-assoc first (summed newest (count - left) g (here -ℤ pos 1)) sums)
    ∙ ap (λ (n : ℕ). with_part table (back + k) rounds n sums) size

pub part_within : (table : Table) (back rounds count most limit : ℕ) (sums : List ℤ) → IsTable table → HasRowsWithin table most → AreWithin limit sums
    → AreWithin (count * (rounds * most) + limit) (with_part table back rounds count sums)
part_within table back rounds count most limit sums h rows within =
    let f = responses_of table in
    let g = with_rounds rounds table.step f in
    let ordered = are_ordered table h in
    added_within (count * (rounds * most)) limit (summed (f (pos 0)).newest count g (pos 0 -ℤ pos back)) sums
    (parts_within g count (rounds * most) (f (pos 0)).newest (pos 0 -ℤ pos back) (record { each = λ n k. ordered.each n k }) (ordered.each (pos 0) back) (rounds_within f rounds table.step most rows)) within

pub more_room : (count left rows limit : ℕ) → 1 ≤ left → left ≤ count → count * rows + limit ≤ 2 ^ 126 → rows + ((count - left) * rows + limit) ≤ 2 ^ 126
more_room count left rows limit some within room =
    let less : suc (count - left) * rows ≤ count * rows = mul-le-mul_right rows (omega arith) in
    omega (arith, less, room)

-- ---- the first row

added-none : (w : List ℤ) → added w [] ≡ w
added-none [] = refl
added-none (x ∷ xs) = refl

one_round : (step : ℕ) (f : Responses) → with_rounds 1 step f ≡ f
one_round step f = fun_ext (λ n. ap (λ (w : List ℤ). record { newest = (f n).newest; weights = w }) (added-none (f n).weights))

no_rounds : (step count : ℕ) (f : Responses) (newest n : ℤ) → summed newest count (with_rounds 0 step f) n ≡ []
no_rounds step zero f newest n = refl
no_rounds step (suc count) f newest n = no_rounds step count f newest (n -ℤ pos 1)

first_is : (table : Table) (width rest rounds : ℕ) (row : List ℤ) → IsTable table → width ≡ rest + rounds * length (rows_of table)
    → row ≡ added (summed (responses_of table (pos 0)).newest rest (with_rounds 1 table.step (responses_of table)) (pos 0 -ℤ pos 0))
    (summed (responses_of table (pos 0)).newest (length (rows_of table)) (with_rounds rounds table.step (responses_of table)) (pos 0 -ℤ pos rest))
    → row ≡ (summed_row width (responses_of table) (pos 0)).weights
first_is table width rest rounds row h parts is =
    let f = responses_of table in
    let newest = (f (pos 0)).newest in
    let classes = length (rows_of table) in
    let whole = summed newest classes (with_rounds rounds table.step f) (pos 0 -ℤ pos rest) in
    let start : pos 0 -ℤ pos 0 ≡ pos 0 = omega (arith, ints) in
    is ∙ ap (λ (g : Responses). added (summed newest rest g (pos 0 -ℤ pos 0)) whole) (one_round table.step f) ∙ ap (λ (z : ℤ). added (summed newest rest f z) whole) start
    ∙ sym (sums_rounds f classes table.step rounds rest (pos 0) (are_ordered table h) (do_recur table h))
    ∙ ap (λ (n : ℕ). summed newest n f (pos 0)) (sym parts)

div_less : (a b : ℕ) → a < b → a / b ≡ 0
div_less a b h = by_quotient (a / b) refl
  where
    by_quotient : (q : ℕ) → a / b ≡ q → q ≡ 0
    by_quotient zero e = refl
    by_quotient (suc q) e =
        let parts : suc q * b + a % b ≡ a = ap (λ (n : ℕ). n * b + a % b) (sym e) ∙ div-add-mod' a b in
        absurd (omega (arith, parts, h))

-- fewer values than classes have no whole round
pub whole_none : (table : Table) (width : ℕ) → width < length (rows_of table) → [] ≡ whole table width
whole_none table width short =
    let none : width / length (rows_of table) ≡ 0 = div_less width (length (rows_of table)) short in
    let f = responses_of table in
    let back = pos 0 -ℤ pos (width % length (rows_of table)) in
    sym (ap (λ (n : ℕ). added (summed (f (pos 0)).newest (length (rows_of table)) (with_rounds n table.step f) back) []) none ∙ ap (λ (w : List ℤ). added w []) (no_rounds table.step (length (rows_of table)) f (f (pos 0)).newest back))

pub first_row_is : (table : Table) (width rest : ℕ) (rounds row : List ℤ) → IsTable table → rest ≡ width % length (rows_of table) → rounds ≡ whole table width
    → row ≡ with_part table 0 1 rest rounds → row ≡ (summed_row width (responses_of table) (pos 0)).weights
first_row_is table width rest rounds row h r e is =
    let f = responses_of table in
    let classes = length (rows_of table) in
    let parts : width ≡ width % classes + width / classes * classes = omega (arith, div-add-mod' width classes) in
    let sum = summed (f (pos 0)).newest classes (with_rounds (width / classes) table.step f) (pos 0 -ℤ pos (width % classes)) in
    first_is table width (width % classes) (width / classes) row h parts (is ∙ ap (λ (n : ℕ). with_part table 0 1 n rounds) r ∙ ap (with_part table 0 1 (width % classes)) (e ∙ added-none sum))

rounds_room : (rounds count most width : ℕ) → rounds * count ≤ width → width * most ≤ 2 ^ 126 → count * (rounds * most) ≤ 2 ^ 126
rounds_room rounds count most width below room =
    let all : rounds * count * most ≤ width * most = mul-le-mul_right most below in
    let turned : count * (rounds * most) ≡ rounds * count * most = sym (mul_assoc count rounds most) ∙ ap (λ (n : ℕ). n * most) (mul_comm count rounds) in
    omega (arith, all, turned, room)

pub whole_room : (table : Table) (width classes most : ℕ) (none : List ℤ) → classes ≡ length (rows_of table) → none ≡ [] → HasRowsWithin table most → width * most ≤ 2 ^ 126
    → (m limit : ℕ) × HasRowsWithin table m × AreWithin limit none × (classes * (width / classes * m) + limit ≤ 2 ^ 126)
whole_room table width classes most none count empty rows room =
    let below : width / classes * classes ≤ width = omega (arith, div-add-mod' width classes) in
    (most, 0, rows, subst (AreWithin 0) (sym empty) none_within, omega (arith, rounds_room (width / classes) classes most width below room))

pub rest_room : (table : Table) (width classes most : ℕ) (rounds : List ℤ) → IsTable table → classes ≡ length (rows_of table) → rounds ≡ whole table width → HasRowsWithin table most → width * most ≤ 2 ^ 126
    → (m limit : ℕ) × HasRowsWithin table m × AreWithin limit rounds × (width % classes * (1 * m) + limit ≤ 2 ^ 126)
rest_room table width classes most rounds h count is rows room =
    let all = length (rows_of table) in
    let within = part_within table (width % all) (width / all) all most 0 [] h rows none_within in
    let limit = all * (width / all * most) + 0 in
    let parts : (width % all + width / all * all) * most ≡ width * most = ap (λ (n : ℕ). n * most) (omega (arith, div-add-mod' width all)) in
    let split = add-mul (width % all) (width / all * all) most in
    let turned : all * (width / all * most) ≡ width / all * all * most = sym (mul_assoc all (width / all) most) ∙ ap (λ (n : ℕ). n * most) (mul_comm all (width / all)) in
    let one : width % classes * (1 * most) ≡ width % all * most = rw count (ap (λ (n : ℕ). width % all * n) (omega arith)) in
    (most, limit, rows, subst (AreWithin limit) (sym is) within, omega (arith, one, parts, split, turned, room))

-- ---- rows of ones

pub full-keeps : (transform : Sequence → Sequence) (f : Responses) (classes step : ℕ) → HasResponses transform f classes step → HasResponses (λ x n. respond (full f n) x) (full f) classes step
full-keeps transform f classes step h = record {
  gives = λ x n. refl;
  recurs = λ n. ap full_row (h.recurs n);
  ordered = λ n k. h.ordered n k;
  has_class = h.has_class;
  has_step = h.has_step;
}

pub full_here : (table : Table) (n count : ℕ) (row : Row) (weights : List ℤ) → n < length (rows_of table) → row ≡ get_or table.rows.items n row → count ≡ length row.weights.items → weights ≡ ones count
    → record { newest = pos row.newest; weights = weights } ≡ full (responses_of table) (pos n)
full_here table n count row weights below is c w =
    let within : n < length table.rows.items = omega (arith, below, count_of table) in
    let at = told_here (rows_of table) table.step n below ∙ row_of table n row within is in
    ap (λ (ws : List ℤ). record { newest = pos row.newest; weights = ws }) (w ∙ ap ones c) ∙ sym (ap full_row at)

pub full_table : (table ones_table : Table) → IsTable table → Passes full (λ (cycle : Cycle). cycle) table ones_table → IsTable ones_table
full_table table ones_table h p =
    table_after full (λ (cycle : Cycle). cycle) table ones_table (λ x n. respond (full (responses_of table) n) x)
    (full-keeps h.transform (responses_of table) (length (rows_of table)) table.step h.law) p

pub full_within : (table ones_table : Table) → Passes full (λ (cycle : Cycle). cycle) table ones_table → HasRowsWithin ones_table 1
full_within table ones_table p n =
    subst (λ (f : Responses). AreWithin 1 (f n).weights) (sym p.told) (ones-within (length (responses_of table n).weights))

-- ---- rows that are read and written

pub weights_of : (table : Table) (n : ℕ) (row : Row) → n < length (rows_of table) → row ≡ get_or table.rows.items n row → row.weights.items ≡ (get_or (rows_of table) n silent).weights
weights_of table n row below is =
    let within : n < length table.rows.items = omega (arith, below, count_of table) in
    ap (λ (r : Response). r.weights) (sym (row_of table n row within is))

pub weights_here : (table : Table) (n : ℕ) (row : Row) → n < length (rows_of table) → row ≡ get_or table.rows.items n row → row.weights.items ≡ (responses_of table (pos n)).weights
weights_here table n row below is = weights_of table n row below is ∙ ap (λ (r : Response). r.weights) (sym (told_here (rows_of table) table.step n below))

pub sum_here : (table : Table) (width n : ℕ) (row : Row) (weights : List ℤ) → n < length (rows_of table) → row ≡ get_or table.rows.items n row → weights ≡ (summed_row width (responses_of table) (pos n)).weights
    → record { newest = pos row.newest; weights = weights } ≡ through_filter (ones width) (responses_of table) (pos n)
sum_here table width n row weights below is w =
    let f = responses_of table in
    let within : n < length table.rows.items = omega (arith, below, count_of table) in
    let newest = ap (λ (r : Response). r.newest) (told_here (rows_of table) table.step n below ∙ row_of table n row within is) in
    ap (λ (z : ℤ). record { newest = z; weights = weights }) (sym newest) ∙ ap (λ (ws : List ℤ). record { newest = (f (pos n)).newest; weights = ws }) w ∙ sym (sum_of_ones f width (pos n))

pub last_sums : (table : Table) (width index : ℕ) (rows : List Row) (row : Row) → 1 ≤ index → AreRows (through_filter (ones width) (responses_of table)) index (map as_response rows)
    → row ≡ get_or rows (index - 1) row → row.weights.items ≡ (summed_row width (responses_of table) (pos index -ℤ pos 1)).weights
last_sums table width index rows row later are is =
    let f = responses_of table in
    let below : index - 1 < length rows = omega (arith, later, are.count_is, length-map rows as_response) in
    let before : pos (index - 1) ≡ pos index -ℤ pos 1 = omega (arith, ints, later) in
    ap (λ (r : Response). r.weights) (sym (row_at rows (index - 1) row below is) ∙ are.each (index - 1) (omega (arith, later)) ∙ sum_of_ones f width (pos (index - 1)))
    ∙ ap (λ (z : ℤ). (summed_row width f z).weights) before

-- ---- from an index to the next

pub cover_room : (table : Table) (width index ahead class back : ℕ) (covers : List ℤ) (less more : ℕ) → IsTable table → 0 < width → width ≤ 2 ^ 14 → IsTurn table width index ahead class back
    → covers ≡ (summed_row width (full (responses_of table)) (pos index -ℤ pos 1)).weights → less ≡ length (get_or (rows_of table) class silent).weights → more ≡ length (responses_of table (pos index)).weights
    → HasRoom covers ahead (ones less) back (ones more)
cover_room table width index ahead class back covers less more h some short turn c l m =
    let lost = l ∙ ap length (sym turn.row) in
    rw (c, sym turn.before, lost, sym turn.behind, m) (covers_within (responses_of table) width (pos index) (are_ordered table h) some (omega (arith, short)))

pub cover_next : (table : Table) (width index ahead class back : ℕ) (covers : List ℤ) (less more : ℕ) (next : List ℤ) → IsTable table → 0 < width → IsTurn table width index ahead class back
    → covers ≡ (summed_row width (full (responses_of table)) (pos index -ℤ pos 1)).weights → less ≡ length (get_or (rows_of table) class silent).weights → more ≡ length (responses_of table (pos index)).weights
    → next ≡ moved_cover covers ahead less back more → next ≡ (summed_row width (full (responses_of table)) (pos index)).weights
cover_next table width index ahead class back covers less more next h some turn c l m is =
    let lost = l ∙ ap length (sym turn.row) in
    is ∙ rw (c, sym turn.before, lost, sym turn.behind, m) (moves_cover (responses_of table) width (pos index) (are_ordered table h) some)

pub sum_room : (table : Table) (width index ahead class back most : ℕ) (sums less more : List ℤ) → IsTable table → 0 < width → HasRowsWithin table most → width * most ≤ 2 ^ 126 → IsTurn table width index ahead class back
    → sums ≡ (summed_row width (responses_of table) (pos index -ℤ pos 1)).weights → less ≡ (get_or (rows_of table) class silent).weights → more ≡ (responses_of table (pos index)).weights
    → HasRoom sums ahead less back more
sum_room table width index ahead class back most sums less more h some rows room turn s l m =
    let lost = l ∙ sym turn.row in
    rw (s, sym turn.before, lost, sym turn.behind, m) (moves_within (responses_of table) width most (pos index) (are_ordered table h) some rows room)

pub sum_next : (table : Table) (width index ahead class back : ℕ) (sums less more cover next : List ℤ) (total : ℕ) → IsTable table → IsTurn table width index ahead class back
    → sums ≡ (summed_row width (responses_of table) (pos index -ℤ pos 1)).weights → less ≡ (get_or (rows_of table) class silent).weights → more ≡ (responses_of table (pos index)).weights
    → cover ≡ (summed_row width (full (responses_of table)) (pos index)).weights → total ≡ length cover
    → next ≡ places total (moved sums ahead less back more) → next ≡ (summed_row width (responses_of table) (pos index)).weights
sum_next table width index ahead class back sums less more cover next total h turn s l m c t is =
    let f = responses_of table in
    let lost = l ∙ sym turn.row in
    let long : total ≡ length (summed_row width f (pos index)).weights = t ∙ ap length c ∙ covers_all f width (pos index) in
    is ∙ rw (long, s, sym turn.before, lost, sym turn.behind, m) (moves_row f width (pos index) (are_ordered table h))
