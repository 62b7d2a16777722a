-- The phases of weights, and the range of their sums.
use Rattle.std.proofs.Common.{◌≡◌, ℕ, zero, suc, ◌+◌, ◌-◌, ◌<◌, ◌≤◌, List, [], ◌∷◌, ◌++◌, length, drop, get_or, refl, sym, ◌∙◌, ap, arith, inl, inr, subst, ◌⊎◌, ◌^◌, ℤ, pos, negsuc, ◌≤ℤ◌}
use Rattle.std.proofs.lemmas.Bool.{cases_lt}
use Rattle.std.proofs.lemmas.Int.{ints, to_z-of_z}
use lib.Signed.{mag}
use mir.Val.{SFits, to_z, of_z}
use mir.Syntax.{w128}
use Rattle.std.proofs.lemmas.List.{at_drop_more}
use Rattle.mr_values.specs.Sequence.{phase}
use Rattle.stage_law.specs.Range.{IsRange}
use Rattle.stage_law.specs.Streams.{Streams}
use Rattle.stage_law.specs.declared.ranges.Range.{Range}
use Rattle.cic_chain.specs.Phases.{every, IsOnePhase, IsPhaseRange}

phase-drop : (factor r : ℕ) (w : List ℤ) → phase factor r w ≡ phase factor 0 (drop r w)
phase-drop factor zero w = refl
phase-drop factor (suc r) [] = refl
phase-drop factor (suc r) (c ∷ cs) = phase-drop factor r cs

drop_none : (n : ℕ) → drop {A = ℤ} n [] ≡ []
drop_none zero = refl
drop_none (suc n) = refl

drop_twice : (a b : ℕ) (w : List ℤ) → drop a (drop b w) ≡ drop (b + a) w
drop_twice a zero w = let same : a ≡ 0 + a = omega arith in ap (λ (n : ℕ). drop n w) same
drop_twice a (suc b) [] = drop_none a ∙ sym (drop_none (suc b + a))
drop_twice a (suc b) (c ∷ cs) = let more : suc (b + a) ≡ suc b + a = omega arith in drop_twice a b cs ∙ ap (λ (n : ℕ). drop n (c ∷ cs)) more

pub phase-start : (factor first : ℕ) (w : List ℤ) → [] ++ phase factor 0 (drop first w) ≡ phase factor first w
phase-start factor first w = sym (phase-drop factor first w)

appended : (xs : List ℤ) (x : ℤ) (rest : List ℤ) → (xs ++ x ∷ []) ++ rest ≡ xs ++ x ∷ rest
appended [] x rest = refl
appended (y ∷ ys) x rest = ap (λ (l : List ℤ). y ∷ l) (appended ys x rest)

-- one weight more
pub phase-more : (factor first place : ℕ) (w taken : List ℤ) (d : ℤ) → 1 ≤ factor → place < length w → taken ++ phase factor 0 (drop place w) ≡ phase factor first w → (taken ++ get_or w place d ∷ []) ++ phase factor 0 (drop (place + factor) w) ≡ phase factor first w
phase-more factor first place w taken d some inside so_far =
    let index : place + 1 + (factor - 1) ≡ place + factor = omega arith in
    let rest : phase factor (factor - 1) (drop (place + 1) w) ≡ phase factor 0 (drop (place + factor) w) =
    phase-drop factor (factor - 1) (drop (place + 1) w) ∙ ap (phase factor 0) (drop_twice (factor - 1) (place + 1) w ∙ ap (λ (n : ℕ). drop n w) index) in
    let next : phase factor 0 (drop place w) ≡ get_or w place d ∷ phase factor 0 (drop (place + factor) w) =
    at_drop_more (phase factor 0) w place d inside ∙ ap (λ (l : List ℤ). get_or w place d ∷ l) rest in
    appended taken (get_or w place d) (phase factor 0 (drop (place + factor) w)) ∙ sym (ap (λ (l : List ℤ). taken ++ l) next) ∙ so_far

no_rest : (factor place : ℕ) (w : List ℤ) → length w ≤ place → phase factor 0 (drop place w) ≡ []
no_rest factor zero [] h = refl
no_rest factor zero (c ∷ cs) h = absurd (omega (arith, h))
no_rest factor (suc place) [] h = refl
no_rest factor (suc place) (c ∷ cs) h = no_rest factor place cs (omega (arith, h))

none_after : (xs : List ℤ) → xs ++ [] ≡ xs
none_after [] = refl
none_after (x ∷ xs) = ap (λ (l : List ℤ). x ∷ l) (none_after xs)

pub phase-end : (factor first place : ℕ) (w taken : List ℤ) → length w ≤ place → taken ++ phase factor 0 (drop place w) ≡ phase factor first w → taken ≡ phase factor first w
phase-end factor first place w taken h so_far = sym (none_after taken) ∙ sym (ap (λ (l : List ℤ). taken ++ l) (no_rest factor place w h)) ∙ so_far

-- ---- the range so far

pub IsPhaseRange-none : (streams : Streams) (weights : List ℤ) (factor : ℕ) → IsPhaseRange streams weights factor 0 (record { lo = pos 0; hi = pos 0 })
IsPhaseRange-none streams weights factor = record {
  low = omega (arith, ints);
  high = omega (arith, ints);
  each = λ r h. absurd (omega arith);
  low_reached = inl refl;
  high_reached = inl refl;
}

le_trans : (a b c : ℤ) → a ≤ℤ b → b ≤ℤ c → a ≤ℤ c
le_trans a b c h k = omega (arith, ints, h, k)

module _ (streams : Streams) (weights : List ℤ) (factor count : ℕ) (range own new : Range) (p : IsPhaseRange streams weights factor count range) (is : IsRange streams (phase factor count weights) every own) where
  pub IsPhaseRange-more : new.lo ≤ℤ range.lo → new.lo ≤ℤ own.lo → range.hi ≤ℤ new.hi → own.hi ≤ℤ new.hi → (new.lo ≡ range.lo) ⊎ (new.lo ≡ own.lo) → (new.hi ≡ range.hi) ⊎ (new.hi ≡ own.hi) → IsPhaseRange streams weights factor (count + 1) new
  IsPhaseRange-more low_first low_second high_first high_second low_one high_one = record {
    low = le_trans new.lo range.lo (pos 0) low_first p.low;
    high = le_trans (pos 0) range.hi new.hi p.high high_first;
    each = λ r h. elim (cases_lt r count) [
      | inl less ↦
          let was = p.each r less in
          (was.0, was.1, le_trans new.lo range.lo was.0.lo low_first was.2, le_trans was.0.hi range.hi new.hi was.3 high_first)
      | inr more ↦
          let same : r ≡ count = omega (arith, h, more) in
          (own, subst (λ (n : ℕ). IsOnePhase streams weights factor n own) (sym same) (record { is_range = is }), low_second, high_second)
    ];
    low_reached = elim low_one [
      | inl e ↦ elim p.low_reached [
        | inl none ↦ inl (e ∙ none)
        | inr some ↦ inr (some.0, omega (arith, some.1), some.2, some.3, some.4 ∙ sym e)
      ]
      | inr e ↦ inr (count, omega arith, own, record { is_range = is }, sym e)
    ];
    high_reached = elim high_one [
      | inl e ↦ elim p.high_reached [
        | inl none ↦ inl (e ∙ none)
        | inr some ↦ inr (some.0, omega (arith, some.1), some.2, some.3, some.4 ∙ sym e)
      ]
      | inr e ↦ inr (count, omega arith, own, record { is_range = is }, sym e)
    ];
  }

-- a number of the machine passes through it
pub back_again : (z : ℤ) → mag z < 2 ^ 127 → to_z w128 (of_z w128 z) ≡ z
back_again z h = to_z-of_z w128 z (fits z h)
  where
    fits : (z : ℤ) → mag z < 2 ^ 127 → SFits w128 z
    fits (pos n) h = omega (arith, ints, h)
    fits (negsuc n) h = omega (arith, ints, h)
