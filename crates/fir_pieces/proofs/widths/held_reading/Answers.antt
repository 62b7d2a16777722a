use Rattle.std.proofs.Common.{◌≡◌, ◌∙◌, ◌≤◌, ◌*◌, ◌^◌, ap, subst, arith, List, ◌++◌, ℤ, false}
use Rattle.std.proofs.Math.Nat.{mul-le-mul_left}
use Rattle.signed_digit.specs.declared.term_list.Term.{Term}
use Rattle.stage_law.specs.Weights.{weights_of}
use Rattle.fir_pieces.specs.Form.{one_value, weights_by}
use Rattle.fir_pieces.specs.Held.{IsHeld}
use Rattle.fir_pieces.specs.Placed.{powers}
use Rattle.fir_pieces.specs.Reading.{terms_at}
use Rattle.fir_pieces.proofs.FormLemmas.{form_small}
use Rattle.fir_pieces.proofs.ReadingLemmas.{short_terms_at, powers-one_value}
use Rattle.fir_pieces.proofs.widths.held_reading.Goals as goal

pub sum_of-requires-clause-short : goal.sum_of-requires-clause-short
sum_of-requires-clause-short g c =
    let are : c.as_slice.result.now ≡ terms_at c.args.reading one_value = c.as_slice.ensures.value ∙ c.in_ok-push_terms.ensures ∙ ap (λ (ts : List Term). ts ++ terms_at c.args.reading one_value) c.new-values.ensures.items in
    rw are (short_terms_at c.args.reading one_value (omega arith))

pub sum_of-requires-clause-small : goal.sum_of-requires-clause-small
sum_of-requires-clause-small g c =
    let are : c.as_slice.result.now ≡ terms_at c.args.reading one_value = c.as_slice.ensures.value ∙ c.in_ok-push_terms.ensures ∙ ap (λ (ts : List Term). ts ++ terms_at c.args.reading one_value) c.new-values.ensures.items in
    let few = powers-one_value c.args.reading in
    rw are (omega (arith, few))

pub held_of-requires : goal.held_of-requires
held_of-requires g c =
    let are : c.as_slice.result.now ≡ terms_at c.args.reading one_value = c.as_slice.ensures.value ∙ c.in_ok-push_terms.ensures ∙ ap (λ (ts : List Term). ts ++ terms_at c.args.reading one_value) c.new-values.ensures.items in
    let most = c.requires.0 in
    let few = powers-one_value c.args.reading in
    let less : most * powers (terms_at c.args.reading one_value) ≤ most * 2 = mul-le-mul_left most few in
    let room : most * powers (terms_at c.args.reading one_value) ≤ 2 ^ 126 = let r = c.requires.2 in omega (arith, less, r) in
    (most, c.requires.1, form_small false most c.as_slice.result.now (weights_of c.in_ok-sum.sum) c.in_ok-sum.ensures (rw are room))

pub returns : goal.returns
returns g c =
    let are : c.as_slice.result.now ≡ terms_at c.args.reading one_value = c.as_slice.ensures.value ∙ c.in_ok-push_terms.ensures ∙ ap (λ (ts : List Term). ts ++ terms_at c.args.reading one_value) c.new-values.ensures.items in
    subst (λ (f : List ℤ). IsHeld (g.R.Ranges.streams c.args.ranges.now) f c.args.beat.class c.args.beat.lag c.held_of.result) (c.in_ok-sum.ensures ∙ ap (weights_by false) are) c.held_of.ensures
