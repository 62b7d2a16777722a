use Rattle.std.proofs.Common.{◌≡◌, ◌∙◌, List, ℤ, length, sum_by, sym, ap, arith}
use Rattle.mr_values.specs.Digit.{digit_count}
use Rattle.mr_values.specs.Sequence.{phase}
use Rattle.mr_values.specs.Timing.{ceil_log}
use Rattle.signed_digit.specs.Terms.{terms_of}
use Rattle.symmetric_fir.specs.Pairs.{firsts, mirror_terms}
use Rattle.symmetric_fir.proofs.PairLemmas.{length-firsts, length-mirror_terms}
use Rattle.symmetric_fir.proofs.counts.counts_of.Goals as goal

pub terms-requires-clause-few : goal.terms-requires-clause-few
terms-requires-clause-few c =
    let are : c.as_slice.result.now ≡ firsts c.args.taps.now = c.as_slice.ensures.value ∙ c.in_ok-found.ensures.firsts in
    let same = ap length are in
    let few = length-firsts c.args.taps.now in
    let most = c.requires in
    omega (arith, same, few, most)

pub count_terms-many-requires-clause-few : goal.count_terms-many-requires-clause-few
count_terms-many-requires-clause-few c =
    let are : c.as_slice-2.result.now ≡ firsts c.args.taps.now = c.as_slice-2.ensures.value ∙ c.in_ok-found.ensures.firsts in
    let same = ap length are in
    let few = length-firsts c.args.taps.now in
    let most = c.requires in
    omega (arith, same, few, most)

pub ceil_log-levels-requires : goal.ceil_log-levels-requires
ceil_log-levels-requires c =
    let are : c.as_slice-2.result.now ≡ firsts c.args.taps.now = c.as_slice-2.ensures.value ∙ c.in_ok-found.ensures.firsts in
    let same = ap length are in
    let few = length-firsts c.args.taps.now in
    let most = c.requires in
    let small = c.count_terms-many.ensures.small in
    omega (arith, same, few, most, small)

pub returns-clause-levels : goal.returns-clause-levels
returns-clause-levels c =
    let first : c.as_slice.result.now ≡ firsts c.args.taps.now = c.as_slice.ensures.value ∙ c.in_ok-found.ensures.firsts in
    let second : c.as_slice-2.result.now ≡ firsts c.args.taps.now = c.as_slice-2.ensures.value ∙ c.in_ok-found.ensures.firsts in
    let is : c.count_terms-many.result ≡ length (mirror_terms c.args.taps.now) = c.count_terms-many.ensures.value ∙ ap (λ (xs : List ℤ). sum_by digit_count (phase 1 0 xs)) (second ∙ sym first) ∙ sym c.in_ok-terms.ensures.count ∙ ap length (c.in_ok-terms.ensures.value ∙ ap (terms_of 1 0) first) in
    c.ceil_log-levels.ensures ∙ ap ceil_log (is ∙ length-mirror_terms c.args.taps.now)

pub returns-clause-few : goal.returns-clause-few
returns-clause-few c =
    let first : c.as_slice.result.now ≡ firsts c.args.taps.now = c.as_slice.ensures.value ∙ c.in_ok-found.ensures.firsts in
    let second : c.as_slice-2.result.now ≡ firsts c.args.taps.now = c.as_slice-2.ensures.value ∙ c.in_ok-found.ensures.firsts in
    let is : c.count_terms-many.result ≡ length (mirror_terms c.args.taps.now) = c.count_terms-many.ensures.value ∙ ap (λ (xs : List ℤ). sum_by digit_count (phase 1 0 xs)) (second ∙ sym first) ∙ sym c.in_ok-terms.ensures.count ∙ ap length (c.in_ok-terms.ensures.value ∙ ap (terms_of 1 0) first) in
    let same = ap length second in
    let few = length-firsts c.args.taps.now in
    let most = c.requires in
    let small = c.count_terms-many.ensures.small in
    omega (arith, is, same, few, most, small)
