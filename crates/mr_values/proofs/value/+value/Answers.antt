use Rattle.std.proofs.Common.{◌≡◌, pos, ◌-◌, rules, arith, ap, ◌∙◌, refl, get_or, to_z, of_z, FitsSigned}
use Rattle.std.specs.Int.{w64, w128}
use Rattle.std.proofs.lemmas.Int.{ints, to_z-of_z}
use Rattle.mr_values.specs.Sequence.{samples, filter_times, ones, up}
use Rattle.mr_values.specs.Value.{size, val, chain, round_value}
use Rattle.mr_values.proofs.Plain.{filter-step, stage-step, chain-empty, chain-last, same_answer, cic_down-plain, cic_up-plain}
use Rattle.mr_values.proofs.value.+value.Goals as goal

pub element_at-returns-in_ok-at-in-CicDown : goal.element_at-returns-in_ok-at-in-CicDown
element_at-returns-in_ok-at-in-CicDown t c =
    let factor_fits : FitsSigned w64 c.in-CicDown.factor = search rules in
    let stages_fits : FitsSigned w64 c.in-CicDown.stages = search rules in
    let delay_fits : FitsSigned w64 c.in-CicDown.delay = search rules in
    let at_fits : FitsSigned w128 c.in_ok-at-in-CicDown.at = search rules in
    let n_fits : FitsSigned w128 c.args.n = c.ranges.n in
    rw c.in-CicDown.is record {
      exact = same_answer _ _ _ c.stages_at.ensures.exact (cic_down-plain _ c.in-CicDown.factor c.in-CicDown.stages c.in-CicDown.delay c.args.n _ _ _ _ _
          (c.size-in-CicDown.ensures ∙ ap size (to_z-of_z w64 _ factor_fits))
          (c.size-in-CicDown-2.ensures ∙ ap size (to_z-of_z w64 _ stages_fits))
          (c.size-in-CicDown-3.ensures ∙ ap size (to_z-of_z w64 _ factor_fits))
          (c.size-in-CicDown-4.ensures ∙ ap size (to_z-of_z w64 _ delay_fits))
          (to_z-of_z w128 _ at_fits ∙ (simp to_z-of_z at c.in_ok-at-in-CicDown.ensures)));
    }

pub element_at-returns-in-CicUp : goal.element_at-returns-in-CicUp
element_at-returns-in-CicUp t c =
    let factor_fits : FitsSigned w64 c.in-CicUp.factor = search rules in
    let stages_fits : FitsSigned w64 c.in-CicUp.stages = search rules in
    let delay_fits : FitsSigned w64 c.in-CicUp.delay = search rules in
    let at : to_z w128 (of_z w128 c.args.n) ≡ c.args.n = to_z-of_z w128 _ c.ranges.n in
    rw c.in-CicUp.is record {
      exact = same_answer _ _ _ c.stages_at-in-CicUp.ensures.exact (rw at (cic_up-plain (chain c.args.before.now (samples c.args.xs.now)) c.in-CicUp.factor c.in-CicUp.stages c.in-CicUp.delay c.args.n _ _ _
          (c.size-factor.ensures ∙ ap size (to_z-of_z w64 _ factor_fits))
          (c.size-in-CicUp.ensures ∙ ap size (to_z-of_z w64 _ stages_fits))
          (c.size-in-CicUp-2.ensures ∙ ap size (to_z-of_z w64 _ delay_fits))));
    }

pub element_at-returns-in-Round : goal.element_at-returns-in-Round
element_at-returns-in-Round t c =
    let shift_fits : FitsSigned w64 c.in-Round.shift = search rules in
    let shift : c.size-in-Round.result ≡ size c.in-Round.shift = c.size-in-Round.ensures ∙ ap size (to_z-of_z w64 _ shift_fits) in
    let at : to_z w128 (of_z w128 c.args.n) ≡ c.args.n = to_z-of_z w128 _ c.ranges.n in
    rw c.in-Round.is record { exact = same_answer _ _ _ c.round_at.ensures.exact (rw (shift, at) refl) }

pub element_at-returns-in-Clip : goal.element_at-returns-in-Clip
element_at-returns-in-Clip t c =
    let bits_fits : FitsSigned w64 c.in-Clip.bits = search rules in
    let bits : c.size-in-Clip.result ≡ size c.in-Clip.bits = c.size-in-Clip.ensures ∙ ap size (to_z-of_z w64 _ bits_fits) in
    let at : to_z w128 (of_z w128 c.args.n) ≡ c.args.n = to_z-of_z w128 _ c.ranges.n in
    rw c.in-Clip.is record { exact = same_answer _ _ _ c.clip_at.ensures.exact (rw (bits, at) refl) }

pub filter_at-loop-k-preserved : goal.filter_at-loop-k-preserved
filter_at-loop-k-preserved t c =
    let at_fits : FitsSigned w128 c.in_ok-at.at = search rules in
    let value_fits : FitsSigned w128 c.in_ok-value.value = search rules in
    let sum_fits : FitsSigned w128 c.in_ok-sum.sum = search rules in
    let tap_fits : FitsSigned w64 (get_or c.args.taps.now c.loop-k.k (pos 0)) = search rules in
    filter-step _ _ c.loop-k.k _ c.in_ok-value.value _ (omega arith) c.loop-k.invariant
    (c.in_ok-value.ensures.exact ∙ ap (val c.args.before.now c.args.xs.now) (omega (arith, ints, c.in_ok-at.ensures)))
    (to_z-of_z w128 _ sum_fits ∙ (simp to_z-of_z at c.in_ok-sum.ensures))

pub round_at-returns : goal.round_at-returns
round_at-returns t c =
    let value_fits : FitsSigned w128 c.in_ok-value.value = search rules in
    let value : to_z w128 (of_z w128 c.in_ok-value.value) ≡ c.in_ok-value.value = to_z-of_z w128 _ value_fits in
    let at : to_z w128 (of_z w128 c.args.n) ≡ c.args.n = to_z-of_z w128 _ c.ranges.n in
    record { exact = same_answer _ _ _ c.rounded.ensures (ap (round_value c.args.mode c.args.shift) (value ∙ c.in_ok-value.ensures.exact ∙ ap (val c.args.before.now c.args.xs.now) at)) }

pub stages_at-loop-k-preserved : goal.stages_at-loop-k-preserved
stages_at-loop-k-preserved t c =
    let at_fits : FitsSigned w128 c.in_ok-at.at = search rules in
    let value_fits : FitsSigned w128 c.in_ok-value.value = search rules in
    let sum_fits : FitsSigned w128 c.in_ok-sum.sum = search rules in
    stage-step _ c.loop-k.k _ c.in_ok-value.value _ c.loop-k.invariant
    (c.in_ok-value.ensures.exact ∙ ap (filter_times (c.args.stages - 1) (ones c.args.width) (up c.args.factor (chain c.args.before.now (samples c.args.xs.now)))) (omega (arith, ints, c.in_ok-at.ensures)))
    (to_z-of_z w128 _ sum_fits ∙ omega (arith, ints, c.in_ok-sum.ensures))

pub value_at-returns-in-None : goal.value_at-returns-in-None
value_at-returns-in-None t c =
    let at : to_z w128 (of_z w128 c.args.n) ≡ c.args.n = to_z-of_z w128 _ c.ranges.n in
    let result_fits : FitsSigned w128 c.sample_at.result = search rules in
    record { exact = to_z-of_z w128 _ result_fits ∙ rw (chain-empty _ (samples c.args.xs.now) c.in-None.ensures.cases) (c.sample_at.ensures ∙ ap (samples c.args.xs.now) at) }

pub value_at-returns-in-Some : goal.value_at-returns-in-Some
value_at-returns-in-Some t c =
    let at : to_z w128 (of_z w128 c.args.n) ≡ c.args.n = to_z-of_z w128 _ c.ranges.n in
    let last = chain-last _ _ _ (samples c.args.xs.now) c.in-Some.ensures.cases.0 in
    record { exact = same_answer _ _ _ c.element_at.ensures.exact (rw (at, last) refl) }
