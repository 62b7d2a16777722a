-- A table's rows make a transform with responses.
use Rattle.std.proofs.Common.{◌≡◌, ℕ, zero, suc, ◌<◌, List, [], ◌∷◌, length, get_or, ℤ, pos, negsuc, ◌+ℤ◌, ◌-ℤ◌, ◌*ℤ◌, ◌≤ℤ◌, ◌<ℤ◌, arith, refl, sym, ◌∙◌, ap, subst}
use Rattle.std.proofs.Math.Path.{fun_ext}
use Rattle.std.proofs.lemmas.Int.{ints}
use Rattle.mr_values.specs.declared.plan.Element.{Element}
use Rattle.mr_values.specs.Width.{floor_quotient, floor_remainder}
use Rattle.mr_values.specs.Sequence.{Sequence, samples, weighted_sum}
use Rattle.mr_values.specs.Value.{chain}
use Rattle.mr_values.proofs.Division.{floor_split, floor_remainder_below}
use Rattle.mr_values.proofs.Ring.{+ℤ-*ℤ}
use Rattle.impulse_phase.specs.declared.table.Response.{Response as Table}
use Rattle.impulse_phase.specs.Response.{Response, Responses, respond, later, responses, HasResponses, full_cycle, AreLinear}
use Rattle.impulse_phase.specs.Reading.{silent, rows_of, told, responses_of, IsResponseOf}
use Rattle.impulse_phase.proofs.Prefix.{prefix-has}
use Rattle.impulse_phase.proofs.Reach.{prefix-starts}
use Rattle.impulse_phase.proofs.Tables.{told_is, told_at, count_of}
use Rattle.stage_law.specs.Streams.{AreCausal}
use Rattle.width_extreme.specs.Prefix.{IsStream}
use Rattle.width_extreme.specs.Walk.{transform_of, IsLawful}

told-recurs : (rows : List Response) (step : ℕ) → 0 < length rows → (n : ℤ) → told rows step (n +ℤ pos (length rows)) ≡ later (pos step) (told rows step n)
told-recurs rows step some n =
    let classes = length rows in
    let q = floor_quotient n classes in
    let r = floor_remainder n classes in
    let row = get_or rows r silent in
    let split = floor_split n classes some in
    let next : n +ℤ pos classes ≡ (q +ℤ pos 1) *ℤ pos classes +ℤ pos r = omega (arith, ints, split, +ℤ-*ℤ q (pos 1) (pos classes)) in
    let newest : row.newest +ℤ (q +ℤ pos 1) *ℤ pos step ≡ row.newest +ℤ q *ℤ pos step +ℤ pos step = omega (arith, ints, +ℤ-*ℤ q (pos 1) (pos step)) in
    told_at rows step (n +ℤ pos classes) (q +ℤ pos 1) r (floor_remainder_below n classes some) next ∙ ap (λ (z : ℤ). record { newest = z; weights = row.weights }) newest

pub rows-some : (table : Table) → 0 < length (rows_of table)
rows-some table = omega (arith, count_of table, table.some, table.rows.ok.0)

pub table-law : (table : Table) → IsLawful table → HasResponses (transform_of table) (responses_of table) (length (rows_of table)) table.step
table-law table h = record {
  gives = λ x n. refl;
  recurs = told-recurs (rows_of table) table.step (rows-some table);
  ordered = h.ordered;
  has_class = rows-some table;
  has_step = h.has_step;
}

-- the table of a prefix tells its responses
pub tells : (es : List Element) (table : Table) → AreLinear es → IsResponseOf es table → responses_of table ≡ responses es
tells es table linear h =
    told_is (chain es) (responses es) (full_cycle es) (prefix-has es linear) (rows_of table) table.step (record { count_is = h.classes; each = h.rows }) h.step

pub is-lawful : (es : List Element) (table : Table) → AreLinear es → IsResponseOf es table → IsLawful table
is-lawful es table linear h =
    let law = prefix-has es linear in
    let same = sym (tells es table linear h) in
    record {
      ordered = λ n k. subst (λ (f : Responses). (f (n -ℤ pos k)).newest ≤ℤ (f n).newest) same (law.ordered n k);
      starts = λ n. subst (λ (f : Responses). (f (negsuc n)).newest <ℤ pos 0) same (prefix-starts es n linear);
      has_step = subst (λ (n : ℕ). 0 < n) (sym h.step) law.has_step;
    }

pub makes-chain : (es : List Element) (table : Table) → AreLinear es → IsResponseOf es table → transform_of table ≡ chain es
makes-chain es table linear h = fun_ext (λ (x : Sequence). fun_ext (λ (n : ℤ). ap (λ (f : Responses). respond (f n) x) (tells es table linear h) ∙ sym ((prefix-has es linear).gives x n)))

weighted_sum-zeros : (cs : List ℤ) (f : ℕ → ℤ) → ((k : ℕ) → f k ≡ pos 0) → weighted_sum cs f ≡ pos 0
weighted_sum-zeros [] f h = refl
weighted_sum-zeros (c ∷ cs) f h = omega (arith, ints, ap (λ (z : ℤ). c *ℤ z) (h zero), weighted_sum-zeros cs (λ k. f (suc k)) (λ k. h (suc k)))

samples-before : (xs : List ℤ) (z : ℤ) → z <ℤ pos 0 → samples xs z ≡ pos 0
samples-before xs (pos n) h = absurd (omega (arith, ints))
samples-before xs (negsuc n) h = refl

-- a stream is 0 before it begins
pub table-starts : (table : Table) (w : ℕ) → IsLawful table → AreCausal (IsStream (transform_of table) w)
table-starts table w law = record {
  each = λ v s n.
      let r = responses_of table (negsuc n) in
      s.is (negsuc n) ∙ weighted_sum-zeros r.weights (λ k. samples s.xs (r.newest -ℤ pos k)) (λ k. samples-before s.xs (r.newest -ℤ pos k) (omega (arith, ints, law.starts n)));
}
