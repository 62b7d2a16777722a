-- What a parallel filter costs, by the digits of its taps.
use Rattle.std.proofs.Common.{◌≡◌, ℕ, zero, suc, ◌+◌, List, refl, ◌∙◌, ap, ℤ}
use Rattle.plan_check.specs.StageCosts.{phase_adders}
use Rattle.signed_digit.specs.Terms.{terms_of}
use Rattle.fir_pieces.specs.Placed.{term_adders}
use Rattle.fir_pieces.proofs.CostLemmas.{term_adders-taps}
use Rattle.polyphase_fir.specs.Facts.{adders_below}

-- the adders of a filter's trees
pub adders-phases : (up : ℕ) (taps : List ℤ) (r : ℕ) → adders_below up taps r ≡ phase_adders up r taps
adders-phases up taps zero = refl
adders-phases up taps (suc r) =
    ap (λ (n : ℕ). n + term_adders (terms_of up r taps)) (adders-phases up taps r)
    ∙ ap (λ (n : ℕ). phase_adders up r taps + n) (term_adders-taps up r 0 taps)
