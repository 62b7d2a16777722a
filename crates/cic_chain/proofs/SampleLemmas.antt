-- What registers hold at the ticks of a stream, as sequences.
use Rattle.std.proofs.Common.{◌≡◌, ℕ, zero, suc, ◌+◌, ◌*◌, ◌≤◌, List, refl, sym, ◌∙◌, ap, arith, ℤ, pos, negsuc, ◌+ℤ◌, ◌-ℤ◌, false}
use Rattle.std.proofs.Math.Path.{fun_ext}
use Rattle.std.proofs.lemmas.Int.{ints}
use Rattle.mr_values.specs.Sequence.{Sequence}
use Rattle.mr_values.proofs.WidthLemmas.{FitsWidth-zero}
use Rattle.net_graph.specs.declared.cell.Cell.{Cell}
use Rattle.net_graph.specs.declared.cell.Node.{Node}
use Rattle.net_graph.specs.declared.cell.Stream.{Stream}
use Rattle.net_graph.specs.Cut.{Cut, IsCut}
use Rattle.net_graph.specs.Run.{Values, IsRun}
use Rattle.pipeline_balance.specs.Gate.{HasTaken, shown}
use Rattle.pipeline_balance.proofs.TakenLemmas.{HasTaken-at}
use Rattle.cic_chain.specs.Cascade.{IsCausal, sum_to, integrator, earlier, comb, integrators, combs}
use Rattle.cic_chain.specs.Pieces.{Steps, sampled, at_ticks}

-- a lawful cut keeps 0
pub cut_zero : (cut : Cut) → IsCut cut → (width : ℕ) → 1 ≤ width → cut false width (pos 0) ≡ pos 0
cut_zero cut law width wide = law.fitting false width (pos 0) wide (FitsWidth-zero width)

-- ---- laws of cascades under any cut that keeps 0

module _ (cut : ℤ → ℤ) (zero_kept : cut (pos 0) ≡ pos 0) where
  sum_to-later : (y : Sequence) → IsCausal y → (m : ℕ) → sum_to cut (λ n. y (n -ℤ pos 1)) (suc m) ≡ sum_to cut y m
  sum_to-later y c zero =
      let one : pos (suc zero) -ℤ pos 1 ≡ pos zero = omega (arith, ints) in
      let start : y (pos zero -ℤ pos 1) ≡ pos 0 = c zero in
      ap (λ (a : ℤ). cut (cut a +ℤ y (pos (suc zero) -ℤ pos 1))) start ∙ ap (λ (a : ℤ). cut (a +ℤ y (pos (suc zero) -ℤ pos 1))) zero_kept ∙ ap (λ (i : ℤ). cut (pos 0 +ℤ y i)) one ∙ ap cut (none (y (pos zero)))
    where
      none : (z : ℤ) → pos 0 +ℤ z ≡ z
      none z = omega (arith, ints)
  sum_to-later y c (suc m) =
      let e : pos (suc (suc m)) -ℤ pos 1 ≡ pos (suc m) = omega (arith, ints) in
      ap (λ (a : ℤ). cut (a +ℤ y (pos (suc (suc m)) -ℤ pos 1))) (sum_to-later y c m) ∙ ap (λ (i : ℤ). cut (sum_to cut y m +ℤ y i)) e

  integrator-later : (y : Sequence) → IsCausal y → (n : ℤ) → integrator cut (λ k. y (k -ℤ pos 1)) n ≡ integrator cut y (n -ℤ pos 1)
  integrator-later y c (pos zero) = ap cut (c zero) ∙ zero_kept
  integrator-later y c (pos (suc m)) =
      let e : pos (suc m) -ℤ pos 1 ≡ pos m = omega (arith, ints) in sum_to-later y c m ∙ ap (integrator cut y) (sym e)
  integrator-later y c (negsuc m) = let e : negsuc m -ℤ pos 1 ≡ negsuc (suc m) = omega (arith, ints) in ap (integrator cut y) (sym e)

  shift_causal : (k : ℕ) (y : Sequence) → IsCausal y → IsCausal (λ n. y (n -ℤ pos k))
  shift_causal k y c n = let e : negsuc n -ℤ pos k ≡ negsuc (n + k) = omega (arith, ints) in ap y e ∙ c (n + k)

  -- what comes so many indices later is summed so many indices later
  pub integrator-shift : (k : ℕ) (y : Sequence) → IsCausal y → (n : ℤ) → integrator cut (λ i. y (i -ℤ pos k)) n ≡ integrator cut y (n -ℤ pos k)
  integrator-shift zero y c n =
      let all : (λ (i : ℤ). y (i -ℤ pos 0)) ≡ y = fun_ext (λ i. ap y (omega (arith, ints))) in
      let at : n ≡ n -ℤ pos 0 = omega (arith, ints) in
      ap (λ (z : Sequence). integrator cut z n) all ∙ ap (integrator cut y) at
  integrator-shift (suc k) y c n =
      let all : (λ (i : ℤ). y (i -ℤ pos (suc k))) ≡ (λ (i : ℤ). y ((i -ℤ pos 1) -ℤ pos k)) = fun_ext (λ i. ap y (omega (arith, ints))) in
      let at : (n -ℤ pos 1) -ℤ pos k ≡ n -ℤ pos (suc k) = omega (arith, ints) in
      ap (λ (z : Sequence). integrator cut z n) all ∙ integrator-later (λ i. y (i -ℤ pos k)) (shift_causal k y c) n ∙ integrator-shift k y c (n -ℤ pos 1) ∙ ap (integrator cut y) at

  pub integrators-causal : (k : ℕ) (y : Sequence) → IsCausal y → IsCausal (integrators cut k y)
  integrators-causal zero y c = c
  integrators-causal (suc k) y c = λ n. refl

  pub earlier-causal : (k : ℕ) (y : Sequence) → IsCausal y → IsCausal (earlier cut k y)
  earlier-causal zero y c = c
  earlier-causal (suc k) y c = λ n.
      let e : negsuc n -ℤ pos 1 ≡ negsuc (suc n) = omega (arith, ints) in ap (λ (i : ℤ). cut (earlier cut k y i)) e ∙ ap cut (earlier-causal k y c (suc n)) ∙ zero_kept

  pub comb-causal : (delay : ℕ) (y : Sequence) → IsCausal y → IsCausal (comb cut delay y)
  comb-causal delay y c n = ap (λ (a : ℤ). cut (a -ℤ earlier cut delay y (negsuc n))) (c n) ∙ ap (λ (a : ℤ). cut (pos 0 -ℤ a)) (earlier-causal delay y c n) ∙ zero_kept

  pub combs-causal : (k delay : ℕ) (y : Sequence) → IsCausal y → IsCausal (combs cut k delay y)
  combs-causal zero delay y c = c
  combs-causal (suc k) delay y c = comb-causal delay (combs cut k delay y) (combs-causal k delay y c)

pub sampled-causal : (values : Values) (stream : Stream) → IsCausal (sampled values stream)
sampled-causal values stream n = refl

-- ---- registers at their own ticks

module _ {cells : List Cell} {period first : ℕ} {register : Node} {step : Cut → Values → ℕ → ℤ} (s : Steps cells period first register step) (positive : 1 ≤ period) (cut : Cut) (law : IsCut cut) (inputs : ℕ → ℤ) (values : Values) (run : IsRun cut cells inputs values) where
  -- between two ticks a register has what it has at the next
  pub steps_kept : (t n : ℕ) → HasTaken period first n t → values t register.place ≡ values (first + n * period) register.place
  steps_kept t n h = s.holds cut law inputs values run t n h ∙ sym (s.holds cut law inputs values run (first + n * period) n (HasTaken-at period first n positive))

  pub steps_first : values (first + 0 * period) register.place ≡ pos 0
  steps_first = s.holds cut law inputs values run (first + 0 * period) 0 (HasTaken-at period first 0 positive)

  pub steps_next : (m : ℕ) → values (first + suc m * period) register.place ≡ step cut values (first + m * period)
  steps_next m = s.holds cut law inputs values run (first + suc m * period) (suc m) (HasTaken-at period first (suc m) positive)

module _ {cells : List Cell} (from : Stream) (positive : 1 ≤ from.period) (width : ℕ) (wide : 1 ≤ width) (cut : Cut) (law : IsCut cut) (inputs : ℕ → ℤ) (values : Values) (run : IsRun cut cells inputs values) where
  -- a register that takes a stream has the value before
  pub held_before : (register : Node) → Steps cells from.period from.offset register (λ cut values t. cut false width (values t from.node.place)) → (n : ℤ) → sampled values (at_ticks from register) n ≡ cut false width (sampled values from (n -ℤ pos 1))
  held_before register s (pos zero) = steps_first s positive cut law inputs values run ∙ sym (cut_zero cut law width wide)
  held_before register s (pos (suc m)) =
      let e : pos (suc m) -ℤ pos 1 ≡ pos m = omega (arith, ints) in steps_next s positive cut law inputs values run m ∙ ap (λ (i : ℤ). cut false width (sampled values from i)) (sym e)
  held_before register s (negsuc m) =
      let e : negsuc m -ℤ pos 1 ≡ negsuc (suc m) = omega (arith, ints) in sym (ap (λ (i : ℤ). cut false width (sampled values from i)) e ∙ cut_zero cut law width wide)

  -- one to which a stream is added has the sum before
  module _ (register : Node) (s : Steps cells from.period from.offset register (λ cut values t. cut false width (values t register.place +ℤ values t from.node.place))) where
    summed : (m : ℕ) → values (from.offset + suc m * from.period) register.place ≡ sum_to (cut false width) (sampled values from) m
    summed zero =
        steps_next s positive cut law inputs values run zero ∙ ap (λ (a : ℤ). cut false width (a +ℤ shown values from 0)) (steps_first s positive cut law inputs values run) ∙ ap (cut false width) (none (shown values from 0))
      where
        none : (z : ℤ) → pos 0 +ℤ z ≡ z
        none z = omega (arith, ints)
    summed (suc m) = steps_next s positive cut law inputs values run (suc m) ∙ ap (λ (a : ℤ). cut false width (a +ℤ shown values from (suc m))) (summed m)

    pub summed_before : (n : ℤ) → sampled values (at_ticks from register) n ≡ integrator (cut false width) (sampled values from) (n -ℤ pos 1)
    summed_before (pos zero) = steps_first s positive cut law inputs values run
    summed_before (pos (suc m)) = let e : pos (suc m) -ℤ pos 1 ≡ pos m = omega (arith, ints) in summed m ∙ ap (integrator (cut false width) (sampled values from)) (sym e)
    summed_before (negsuc m) = let e : negsuc m -ℤ pos 1 ≡ negsuc (suc m) = omega (arith, ints) in ap (integrator (cut false width) (sampled values from)) (sym e)
