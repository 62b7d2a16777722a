-- How many values were taken before a tick, and one form at the pace of one phase.
use Rattle.std.proofs.Common.{◌≡◌, ℕ, zero, suc, ◌+◌, ◌-◌, ◌*◌, ◌/◌, ◌<◌, ◌≤◌, List, sym, ◌∙◌, ap, arith, subst, ℤ, pos, ◌-ℤ◌}
use Rattle.std.proofs.lemmas.Int.{ints}
use Rattle.std.proofs.Math.Nat.{add-mul-div_right, div-eq_of_lt}
use Rattle.mr_values.specs.Sequence.{Sequence, weighted_sum}
use Rattle.mr_values.specs.Timing.{ceil_div}
use Rattle.net_graph.specs.declared.cell.Cell.{Cell}
use Rattle.net_graph.specs.declared.cell.Node.{Node}
use Rattle.net_graph.specs.declared.cell.Stream.{Stream}
use Rattle.net_graph.specs.Cut.{Cut, IsCut}
use Rattle.net_graph.specs.Run.{Values, IsRun}
use Rattle.pipeline_balance.specs.Gate.{Carries, HasTaken}
use Rattle.pipeline_balance.proofs.TakenLemmas.{taken}
use Rattle.stage_law.specs.Streams.{Streams}
use Rattle.fir_pieces.specs.Moment.{sum_at}
use Rattle.fir_pieces.specs.Peaks.{HoldsForm}
use Rattle.fir_pieces.specs.Split.{moment_after, taken_before}

-- ---- how many were taken

-- (n * d + r) / d, rounded up, for 1 ≤ r ≤ d
ceil_more : (n d r : ℕ) → 1 ≤ r → r ≤ d → ceil_div (n * d + r) d ≡ suc n
ceil_more n d r some small =
    let at : n * d + r + (d - 1) ≡ (r - 1) + suc n * d = omega arith in
    let none : (r - 1) / d ≡ 0 = div-eq_of_lt (omega arith) in
    let sum = add-mul-div_right (r - 1) (suc n) {z = d} (omega arith) in
    ap (λ (k : ℕ). k / d) at ∙ omega (arith, sum, none)

pub taken_is : (period first n t : ℕ) → 1 ≤ period → HasTaken period first n t → taken_before period first t ≡ n
taken_is period first zero t positive h =
    let none : t - first ≡ 0 = omega arith in
    ap (λ (k : ℕ). ceil_div k period) none ∙ div-eq_of_lt (omega arith)
taken_is period first (suc n) t positive h =
    let after = h.0 in
    let until = h.1 in
    let at : t - first ≡ n * period + (t - first - n * period) = omega arith in
    ap (λ (k : ℕ). ceil_div k period) at ∙ ceil_more n period (t - first - n * period) (omega arith) (omega arith)

pub has_taken : (period first t : ℕ) → 1 ≤ period → HasTaken period first (taken_before period first t) t
has_taken period first t positive = let before = taken period first t positive in subst (λ (n : ℕ). HasTaken period first n t) (sym (taken_is period first before.0 t positive before.1)) before.1

-- ---- one form at every index

-- the newest is the last that was taken
newest_is : (modulus count : ℕ) → (moment_after modulus count).newest ≡ pos count -ℤ pos 1
newest_is modulus zero = omega (arith, ints)
newest_is modulus (suc k) = omega (arith, ints)

pub same_sum : (modulus count : ℕ) (form : List ℤ) (v : Sequence) → weighted_sum form (λ i. v (pos count -ℤ pos 1 -ℤ pos i)) ≡ sum_at (λ φ. form) (moment_after modulus count) v
same_sum modulus count form v = ap (λ (z : ℤ). weighted_sum form (λ i. v (z -ℤ pos i))) (sym (newest_is modulus count))

-- a node holds a form where it does so at the last value that was taken, however many were
pub HoldsForm-by : (streams : Streams) (cells : List Cell) (from : Stream) (form : List ℤ) (ticks : ℕ) (node : Node) → 1 ≤ from.period
    → ((cut : Cut) → IsCut cut → (inputs : ℕ → ℤ) (values : Values) (v : Sequence) → streams v → IsRun cut cells inputs values → Carries values from v → (t : ℕ) → t < ticks → values t node.place ≡ pos 0)
    → ((cut : Cut) → IsCut cut → (inputs : ℕ → ℤ) (values : Values) (v : Sequence) → streams v → IsRun cut cells inputs values → Carries values from v → (s count : ℕ) → HasTaken from.period from.offset count s → values (s + ticks) node.place ≡ weighted_sum form (λ i. v (pos count -ℤ pos 1 -ℤ pos i)))
    → HoldsForm streams cells from form ticks node
HoldsForm-by streams cells from form ticks node positive early late = record {
  early = early;
  late = λ cut law x values v is run carried s.
      let count = taken_before from.period from.offset s in
      late cut law x values v is run carried s count (has_taken from.period from.offset s positive) ∙ same_sum 1 count form v;
}

-- and only there
pub HoldsForm-late : (streams : Streams) (cells : List Cell) (from : Stream) (form : List ℤ) (ticks : ℕ) (node : Node) → 1 ≤ from.period → HoldsForm streams cells from form ticks node
    → (cut : Cut) → IsCut cut → (inputs : ℕ → ℤ) (values : Values) (v : Sequence) → streams v → IsRun cut cells inputs values → Carries values from v → (s count : ℕ) → HasTaken from.period from.offset count s → values (s + ticks) node.place ≡ weighted_sum form (λ i. v (pos count -ℤ pos 1 -ℤ pos i))
HoldsForm-late streams cells from form ticks node positive h cut law x values v is run carried s count now =
    h.late cut law x values v is run carried s ∙ ap (λ (n : ℕ). sum_at (λ φ. form) (moment_after 1 n) v) (taken_is from.period from.offset count s positive now) ∙ sym (same_sum 1 count form v)
