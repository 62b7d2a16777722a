use Rattle.std.proofs.Common.{◌≡◌, ℕ, ◌∙◌, ap, sym, arith, inl, inr, get_or, false}
use Rattle.std.proofs.lemmas.Bool.{cases_lt}
use Rattle.signed_digit.specs.declared.term_list.Term.{Term}
use Rattle.fir_pieces.proofs.PlaceLemmas.{get_or_default}
use Rattle.fir_pieces.proofs.forms.first_place.Goals as goal

pub loop-term-preserved : goal.loop-term-preserved
loop-term-preserved c =
    let terms = c.args.terms.now in
    let blank : Term = record { index = 0; place = 0; negative = false } in
    let now = c.min-least.ensures in
    record {
      least = λ k t below inside. elim (cases_lt k c.loop-term.term-index) [
        | inl less ↦ let before = c.loop-term.invariant.least k t less inside in omega (arith, before, now)
        | inr ge ↦
            let same : k ≡ c.loop-term.term-index = omega arith in
            let is : (get_or terms k t).index ≡ c.from.result = ap (λ (u : Term). u.index) (get_or_default terms k t blank inside) ∙ ap (λ (n : ℕ). (get_or terms n blank).index) same ∙ sym c.from.ensures in
            omega (arith, is, now)
      ];
      most = let before = c.loop-term.invariant.most in omega (arith, before, now);
    }
