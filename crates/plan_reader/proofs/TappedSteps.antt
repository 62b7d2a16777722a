-- Taps that are put into a plan.
use Rattle.std.proofs.Common.{◌≡◌, ℕ, zero, suc, ◌<◌, ◌≤◌, List, [], ◌∷◌, length, get_or, set, ℤ, arith, refl, sym, ap}
use Rattle.mr_values.specs.declared.plan.Element.{Element}
use Rattle.mr_values.specs.declared.plan.Element.TheVariants.{Up, Down, Filter, CicDown, CicUp, Round, Clip}
use Rattle.mr_values.specs.declared.plan.Form.{Form}
use Rattle.plan_reader.specs.Tapped.{tapped, tapped_at}

pub tapped-past : (place : ℕ) (taps : List ℤ) (es : List Element) → length es ≤ place → es ≡ tapped_at place taps es
tapped-past place taps [] h = refl
tapped-past zero taps (e ∷ es) h = absurd (omega arith)
tapped-past (suc place) taps (e ∷ es) h = ap (λ (rest : List Element). e ∷ rest) (tapped-past place taps es (omega arith))

pub tapped-filter : (place : ℕ) (taps old : List ℤ) (form : Form) (es : List Element) (d : Element) → place < length es → get_or es place d ≡ Filter old form → set es place (Filter taps form) ≡ tapped_at place taps es
tapped-filter place taps old form [] d h is = absurd (omega arith)
tapped-filter zero taps old form (e ∷ es) d h is = ap (λ (x : Element). tapped taps x ∷ es) (sym is)
tapped-filter (suc place) taps old form (e ∷ es) d h is = ap (λ (rest : List Element). e ∷ rest) (tapped-filter place taps old form es d (omega arith) is)

same_other : (taps : List ℤ) (e : Element) → ((form : Form) (old : List ℤ) → e ≡ Filter old form → ⊥) → e ≡ tapped taps e
same_other taps (Filter old form) other = absurd (other form old refl)
same_other taps (Up factor) other = refl
same_other taps (Down factor) other = refl
same_other taps (CicDown factor stages delay) other = refl
same_other taps (CicUp factor stages delay) other = refl
same_other taps (Round shift mode) other = refl
same_other taps (Clip bits) other = refl

pub tapped-other : (place : ℕ) (taps : List ℤ) (es : List Element) (d : Element) → place < length es → ((form : Form) (old : List ℤ) → get_or es place d ≡ Filter old form → ⊥) → es ≡ tapped_at place taps es
tapped-other place taps [] d h other = refl
tapped-other zero taps (e ∷ es) d h other = ap (λ (x : Element). x ∷ es) (same_other taps e other)
tapped-other (suc place) taps (e ∷ es) d h other = ap (λ (rest : List Element). e ∷ rest) (tapped-other place taps es d (omega arith) other)
