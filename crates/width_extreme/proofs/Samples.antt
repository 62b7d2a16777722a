-- The samples of an end, made one after another from the newest one on backwards.
use Rattle.std.proofs.Common.{◌≡◌, ◌∙◌, ℕ, zero, suc, ◌+◌, ◌-◌, ◌%◌, ◌<◌, ◌≤◌, refl, sym, ap, arith, List, [], ◌∷◌, ◌++◌, length, drop, get_or, reverse, ℤ, pos, Bool}
use Rattle.mr_values.specs.Sequence.{weighted_sum}
use Rattle.mr_values.specs.Value.{size}
use Rattle.impulse_phase.specs.declared.table.Response.{Response as Table}
use Rattle.impulse_phase.specs.Response.{through_filter}
use Rattle.impulse_phase.specs.Reading.{rows_of, responses_of}
use Rattle.stage_law.specs.Rising.{behind_at, factors_in, AreRising, factors_from}
use Rattle.stage_law.specs.declared.weights.Weight.{Weight}
use Rattle.width_extreme.specs.Walk.{IsLawful, IsLongest, delay_at, weight_back}
use Rattle.width_extreme.specs.Furthest.{chosen_for, near_end, far_end, listed, samples_at}
use Rattle.width_extreme.proofs.Finer.{same-weights}
use Rattle.width_extreme.proofs.Histories.{listed-push, listed-reverse, listed-same}
use Rattle.width_extreme.proofs.Walked.{weight-here}

-- the sample so many places before the newest one
abbrev pub sample_back : Table → ℕ → List ℤ → Bool → ℕ → ℕ → ℤ
sample_back table w form high index place = chosen_for (near_end high w) (far_end high w) (get_or (through_filter form (responses_of table) (pos index)).weights place (pos 0))

-- The samples of the places so far, where the entries before `start` reach no further place.
pub record AreSamples (table : Table) (w longest : ℕ) (ws : List Weight) (high : Bool) (index first newest start place : ℕ) (items : List ℤ) : Type 0 where
  pub within : start ≤ length ws
  pub near : place ≤ newest + 1
  pub spent : (k : ℕ) → k < start → delay_at table first (behind_at ws k) + longest ≤ place
  pub are : items ≡ listed place (sample_back table w (factors_from 0 ws) high index)

pub no-samples : (table : Table) (w longest : ℕ) (ws : List Weight) (high : Bool) (index first newest : ℕ) → AreSamples table w longest ws high index first newest 0 0 []
no-samples table w longest ws high index first newest = record { within = omega arith; near = omega arith; spent = λ k less. absurd (omega arith); are = refl }

pub samples-pass : (table : Table) (w longest : ℕ) (ws : List Weight) (high : Bool) (index first newest start place back : ℕ) (items : List ℤ) → AreSamples table w longest ws high index first newest start place items
    → start < length ws → back ≡ behind_at ws start → delay_at table first back + longest ≤ place → AreSamples table w longest ws high index first newest (start + 1) place items
samples-pass table w longest ws high index first newest start place back items h below is past = record {
  within = omega arith;
  near = h.near;
  spent = λ k less. by k less (start - k) refl;
  are = h.are;
}
  where
    by : (k : ℕ) → k < start + 1 → (d : ℕ) → start - k ≡ d → delay_at table first (behind_at ws k) + longest ≤ place
    by k less (suc d) e = h.spent k (omega arith)
    by k less zero e =
        let same : k ≡ start = omega arith in
        let here : behind_at ws k ≡ back = ap (behind_at ws) same ∙ sym is in
        omega (arith, past, ap (delay_at table first) here)

pub samples-more : (table : Table) (w longest : ℕ) (ws : List Weight) (high : Bool) (index first newest start place : ℕ) (items items' : List ℤ) (weight sample : ℤ) → IsLawful table → IsLongest table longest → AreRising ws
    → AreSamples table w longest ws high index first newest start place items → first ≡ index % length (rows_of table) → place ≤ newest
    → weight ≡ weighted_sum (drop start (factors_in ws)) (λ k. weight_back table first place (behind_at ws (start + k)))
    → sample ≡ chosen_for (near_end high w) (far_end high w) weight → items' ≡ items ++ sample ∷ [] → AreSamples table w longest ws high index first newest start (place + 1) items'
samples-more table w longest ws high index first newest start place items items' weight sample law long rises h at from sum chosen pushed = record {
  within = h.within;
  near = omega arith;
  spent = λ k less. omega (arith, h.spent k less);
  are =
      let form = factors_from 0 ws in
      let f = sample_back table w form high index in
      let one : suc place ≡ place + 1 = omega arith in
      let here : weight ≡ get_or (through_filter form (responses_of table) (pos index)).weights place (pos 0) =
      sum ∙ weight-here table longest first ws law long rises start place place h.spent (omega arith)
      ∙ ap (λ (n : ℕ). get_or (through_filter form (responses_of table) (pos n)).weights place (pos 0)) at
      ∙ ap (λ (ws : List ℤ). get_or ws place (pos 0)) (same-weights table form index law) in
      pushed ∙ ap (λ (zs : List ℤ). zs ++ sample ∷ []) h.are
      ∙ ap (λ (z : ℤ). listed place f ++ z ∷ []) (chosen ∙ ap (chosen_for (near_end high w) (far_end high w)) here)
      ∙ sym (listed-push place f) ∙ ap (λ (n : ℕ). listed n f) one;
}

pub samples-end : (table : Table) (w longest : ℕ) (ws : List Weight) (high : Bool) (index first newest start place : ℕ) (items items' : List ℤ)
    → AreSamples table w longest ws high index first newest start place items → newest < place → pos newest ≡ (responses_of table (pos index)).newest → items' ≡ reverse items
    → items' ≡ samples_at table w (factors_from 0 ws) high index
samples-end table w longest ws high index first newest start place items items' h past is turned =
    let form = factors_from 0 ws in
    let f = sample_back table w form high index in
    let all : place ≡ suc newest = omega (arith, h.near) in
    let count : newest ≡ size (responses_of table (pos index)).newest = ap size is in
    turned ∙ ap reverse (h.are ∙ ap (λ (n : ℕ). listed n f) all) ∙ listed-reverse (suc newest) f
    ∙ listed-same (suc newest) (λ k. f (suc newest - 1 - k)) (λ k. f (newest - k)) (λ k below. ap f (omega arith))
    ∙ ap (λ (m : ℕ). listed (suc m) (λ k. f (m - k))) count
