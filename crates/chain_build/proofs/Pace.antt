-- A stream keeps pace with the samples: so many of its periods are so many ticks of samples.
use Rattle.std.proofs.Common.{◌≡◌, ◌∙◌, ℕ, suc, ◌+◌, ◌*◌, ◌<◌, ◌≤◌, refl, sym, ap, arith, List, [], ◌∷◌, ◌++◌, ℤ, pos, negsuc, ◌*ℤ◌, inl, inr, None, Some}
use Rattle.std.proofs.Math.Nat.{mul-le-mul_right}
use Rattle.std.proofs.lemmas.Bool.{cases_lt}
use Rattle.std.proofs.lemmas.Int.{ints}
use Rattle.mr_values.specs.declared.plan.Element.{Element}
use Rattle.mr_values.specs.declared.plan.Element.TheVariants.{Up, Down, Filter, CicDown, CicUp, Round, Clip}
use Rattle.mr_values.specs.declared.plan.Form.{Form}
use Rattle.mr_values.specs.Timing.{Group, Fir, DownCic, UpCic, Rounding, Clipping, groups, join_up, join_filter, up_factor, down_factor}
use Rattle.mr_values.specs.Value.{size}
use Rattle.impulse_phase.specs.Reach.{Extent, extent_after, extent_after_all, extent}
use Rattle.impulse_phase.specs.Response.{AreLinear, responses}
use Rattle.impulse_phase.proofs.Reach.{prefix-extent}

-- the products of the factors of groups, after those before them
pub record Pace : Type 0 where
  pub up : ℕ
  pub down : ℕ

abbrev pub pace_after : Group → Pace → Pace
pace_after g p = record { up = p.up * up_factor g; down = p.down * down_factor g }

abbrev pub pace_all : List Group → Pace → Pace
pace_all [] p = p
pace_all (g ∷ gs) p = pace_all gs (pace_after g p)

abbrev pub at_once : Pace
at_once = record { up = 1; down = 1 }

pub pace-more : (gs : List Group) (g : Group) (p : Pace) → pace_all (gs ++ g ∷ []) p ≡ pace_after g (pace_all gs p)
pace-more [] g p = refl
pace-more (h ∷ gs) g p = pace-more gs g (pace_after h p)

-- ---- the extent of elements has the products of their groups

pace_is : (a b c d : ℕ) → a ≡ c → b ≡ d → record { up = a; down = b } ≡ (let p : Pace = record { up = c; down = d } in p)
pace_is a b c d e f = ap (λ (n : ℕ). (let p : Pace = record { up = n; down = b } in p)) e ∙ ap (λ (n : ℕ). (let p : Pace = record { up = c; down = n } in p)) f

pace-up : (l : ℕ) (gs : List Group) (p : Pace) → pace_all (join_up l gs) p ≡ pace_all gs (record { up = p.up * l; down = p.down })
pace-up l [] p = pace_is (p.up * l) (p.down * 1) (p.up * l) p.down refl (omega arith)
pace-up l (Fir None f d ∷ gs) p = ap (pace_all gs) (pace_is (p.up * l) (p.down * down_factor (Fir None f d)) (p.up * l * 1) (p.down * down_factor (Fir None f d)) (omega arith) refl)
pace-up l (Fir (Some u) f d ∷ gs) p = ap (pace_all (Fir (Some u) f d ∷ gs)) (pace_is (p.up * l) (p.down * 1) (p.up * l) p.down refl (omega arith))
pace-up l (DownCic r n m ∷ gs) p = ap (pace_all (DownCic r n m ∷ gs)) (pace_is (p.up * l) (p.down * 1) (p.up * l) p.down refl (omega arith))
pace-up l (UpCic r n m ∷ gs) p = ap (pace_all (UpCic r n m ∷ gs)) (pace_is (p.up * l) (p.down * 1) (p.up * l) p.down refl (omega arith))
pace-up l (Rounding s m ∷ gs) p = ap (pace_all (Rounding s m ∷ gs)) (pace_is (p.up * l) (p.down * 1) (p.up * l) p.down refl (omega arith))
pace-up l (Clipping bits ∷ gs) p = ap (pace_all (Clipping bits ∷ gs)) (pace_is (p.up * l) (p.down * 1) (p.up * l) p.down refl (omega arith))

once : (gs : List Group) (p : Pace) → pace_all gs (record { up = p.up * 1; down = p.down * 1 }) ≡ pace_all gs p
once gs p = ap (pace_all gs) (pace_is (p.up * 1) (p.down * 1) p.up p.down (omega arith) (omega arith))

pace-filter : (taps : List ℤ) (form : Form) (gs : List Group) (p : Pace) → pace_all (join_filter taps form gs) p ≡ pace_all gs p
pace-filter taps form [] p = once [] p
pace-filter taps form (Fir None None d ∷ gs) p = refl
pace-filter taps form (Fir None (Some f) d ∷ gs) p = once (Fir None (Some f) d ∷ gs) p
pace-filter taps form (Fir (Some u) None d ∷ gs) p = once (Fir (Some u) None d ∷ gs) p
pace-filter taps form (Fir (Some u) (Some f) d ∷ gs) p = once (Fir (Some u) (Some f) d ∷ gs) p
pace-filter taps form (DownCic r n m ∷ gs) p = once (DownCic r n m ∷ gs) p
pace-filter taps form (UpCic r n m ∷ gs) p = once (UpCic r n m ∷ gs) p
pace-filter taps form (Rounding s m ∷ gs) p = once (Rounding s m ∷ gs) p
pace-filter taps form (Clipping bits ∷ gs) p = once (Clipping bits ∷ gs) p

abbrev pace_of : Extent → Pace
pace_of x = record { up = x.up; down = x.down }

pace-from : (es : List Element) (x : Extent) → pace_of (extent_after_all es x) ≡ pace_all (groups es) (pace_of x)
pace-from [] x = refl
pace-from (Up factor ∷ es) x = pace-from es (extent_after (Up factor) x) ∙ sym (pace-up (size factor) (groups es) (pace_of x))
pace-from (Down factor ∷ es) x =
    pace-from es (extent_after (Down factor) x) ∙ ap (pace_all (groups es)) (pace_is x.up (size factor * x.down) (x.up * 1) (x.down * size factor) (omega arith) (omega arith))
pace-from (Filter taps form ∷ es) x = pace-from es (extent_after (Filter taps form) x) ∙ sym (pace-filter taps form (groups es) (pace_of x))
pace-from (CicDown factor stages delay ∷ es) x =
    pace-from es (extent_after (CicDown factor stages delay) x) ∙ ap (pace_all (groups es)) (pace_is x.up (size factor * x.down) (x.up * 1) (x.down * size factor) (omega arith) (omega arith))
pace-from (CicUp factor stages delay ∷ es) x =
    pace-from es (extent_after (CicUp factor stages delay) x) ∙ ap (pace_all (groups es)) (pace_is (x.up * size factor) x.down (x.up * size factor) (x.down * 1) refl (omega arith))
pace-from (Round shift mode ∷ es) x = pace-from es x ∙ sym (once (groups es) (pace_of x))
pace-from (Clip bits ∷ es) x = pace-from es x ∙ sym (once (groups es) (pace_of x))

pub extent-pace : (es : List Element) → pace_of (extent es) ≡ pace_all (groups es) at_once
extent-pace es = pace-from es (record { up = 1; down = 1; slack = 1; reach = 1 })

-- so many periods are so many ticks, and so are those of one group more
pub balance-more : (period after ticks up down : ℕ) (g : Group) → period * up ≡ ticks * down → after * up_factor g ≡ period * down_factor g → after * (up * up_factor g) ≡ ticks * (down * down_factor g)
balance-more period after ticks up down g was now =
    let first : after * (up * up_factor g) ≡ after * up_factor g * up = omega arith in
    let second : period * down_factor g * up ≡ period * up * down_factor g = omega arith in
    let third : ticks * down * down_factor g ≡ ticks * (down * down_factor g) = omega arith in
    first ∙ ap (λ (n : ℕ). n * up) now ∙ second ∙ ap (λ (n : ℕ). n * down_factor g) was ∙ third

-- ---- a sample is read by the tick of the index whose sum has it

below-times : (i index up down ticks period : ℕ) → 0 < up → i * up ≤ index * down → period * up ≡ ticks * down → i * ticks ≤ index * period
below-times i index up down ticks period some h balance = elim (cases_lt (index * period) (i * ticks)) [
  | inr le ↦ le
  | inl less ↦
      let first : i * up * ticks ≤ index * down * ticks = mul-le-mul_right ticks h in
      let turned : index * down * ticks ≡ index * (ticks * down) = omega arith in
      let same : index * (ticks * down) ≡ index * (period * up) = ap (λ (n : ℕ). index * n) (sym balance) in
      let second : suc (index * period) * up ≤ i * ticks * up = mul-le-mul_right up less in
      let third : i * ticks * up ≡ i * up * ticks = omega arith in
      let fourth : suc (index * period) * up ≡ index * (period * up) + up = omega arith in
      absurd (omega (arith, first, turned, same, second, third, fourth, some))
]

pub read-early : (es : List Element) (index i ticks period : ℕ) → AreLinear es → i < suc (size (responses es (pos index)).newest) → period * (extent es).up ≡ ticks * (extent es).down → i * ticks ≤ index * period
read-early es index i ticks period linear below balance = by (responses es (pos index)).newest refl
  where
    by : (z : ℤ) → (responses es (pos index)).newest ≡ z → i * ticks ≤ index * period
    by (pos n) is =
        let law = prefix-extent es linear in
        let few = law.reach.newest (pos index) in
        let at : (responses es (pos index)).newest *ℤ pos (extent es).up ≡ pos (n * (extent es).up) = ap (λ (z : ℤ). z *ℤ pos (extent es).up) is ∙ omega (arith, ints) in
        let most : i ≤ n = omega (arith, below, ap size is) in
        let less : i * (extent es).up ≤ n * (extent es).up = mul-le-mul_right (extent es).up most in
        below-times i index (extent es).up (extent es).down ticks period law.has_up (omega (arith, ints, few, at, less)) balance
    by (negsuc n) is =
        let none : i ≡ 0 = omega (arith, below, ap size is) in
        let first : i * ticks ≡ 0 = ap (λ (k : ℕ). k * ticks) none ∙ omega arith in
        omega (arith, first)
