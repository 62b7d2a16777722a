-- Which groups round.
use Rattle.std.proofs.Common.{◌≡◌, Bool, true, false, cond, if◌then◌else◌, List, [], ◌∷◌, ◌++◌, ◌||◌, refl, sym, ◌∙◌, ap}
use Rattle.mr_values.specs.Timing.{Group, Fir, DownCic, UpCic, Rounding, Clipping}
use Rattle.chain_build.specs.Built.{rounds, has_rounding, IsPlainGroup, ArePlainGroups}

pub has_rounding-more : (front : List Group) (g : Group) → has_rounding (front ++ g ∷ []) ≡ (if has_rounding front then true else rounds g)
has_rounding-more [] g = by (rounds g)
  where
    by : (b : Bool) → cond b true false ≡ b
    by true = refl
    by false = refl
has_rounding-more (h ∷ gs) g = by (rounds h) (has_rounding-more gs g)
  where
    by : (b : Bool) → has_rounding (gs ++ g ∷ []) ≡ cond (has_rounding gs) true (rounds g) → cond b true (has_rounding (gs ++ g ∷ [])) ≡ cond (cond b true (has_rounding gs)) true (rounds g)
    by true ih = refl
    by false ih = ih

-- where none of several rounds, none of the first does, nor the last
pub record AreUnrounded (front : List Group) (g : Group) : Type 0 where
  pub before : has_rounding front ≡ false
  pub plain : rounds g ≡ false

pub unrounded : (front : List Group) (g : Group) → has_rounding (front ++ g ∷ []) ≡ false → AreUnrounded front g
unrounded front g is = by (has_rounding front) (rounds g) refl refl (let e = has_rounding-more front g in cc)
  where
    by : (b r : Bool) → has_rounding front ≡ b → rounds g ≡ r → cond b true r ≡ false → AreUnrounded front g
    by true r before plain e = absurd (cc)
    by false true before plain e = absurd (cc)
    by false false before plain e = record { before = before; plain = plain }

pub plain-group : (g : Group) → rounds g ≡ false → IsPlainGroup g
plain-group (Fir up filter down) is = tt
plain-group (DownCic factor stages delay) is = tt
plain-group (UpCic factor stages delay) is = tt
plain-group (Rounding shift mode) is = absurd (cc)
plain-group (Clipping bits) is = absurd (cc)

pub plain-unrounded : (gs : List Group) → ArePlainGroups gs → has_rounding gs ≡ false
plain-unrounded [] plain = refl
plain-unrounded (Fir up filter down ∷ gs) plain = plain-unrounded gs plain.1
plain-unrounded (DownCic factor stages delay ∷ gs) plain = plain-unrounded gs plain.1
plain-unrounded (UpCic factor stages delay ∷ gs) plain = plain-unrounded gs plain.1
plain-unrounded (Rounding shift mode ∷ gs) plain = absurd plain.0
plain-unrounded (Clipping bits ∷ gs) plain = absurd plain.0

-- what is known of one more group
pub rounded-more : (front : List Group) (g : Group) (a b : Bool) → a ≡ has_rounding front → b ≡ rounds g → (a || b) ≡ has_rounding (front ++ g ∷ [])
rounded-more front g a b before own = either a b ∙ ap (λ (c : Bool). cond c true b) before ∙ ap (λ (c : Bool). cond (has_rounding front) true c) own ∙ sym (has_rounding-more front g)
  where
    either : (a b : Bool) → (a || b) ≡ cond a true b
    either true b = refl
    either false b = refl

pub unrounded-plain : (gs : List Group) → has_rounding gs ≡ false → ArePlainGroups gs
unrounded-plain [] none = tt
unrounded-plain (Fir up filter down ∷ gs) none = (tt, unrounded-plain gs none)
unrounded-plain (DownCic factor stages delay ∷ gs) none = (tt, unrounded-plain gs none)
unrounded-plain (UpCic factor stages delay ∷ gs) none = (tt, unrounded-plain gs none)
unrounded-plain (Rounding shift mode ∷ gs) none = absurd (cc)
unrounded-plain (Clipping bits ∷ gs) none = absurd (cc)
