-- The first elements of an accepted plan, where none of them rounds.
use Rattle.std.proofs.Common.{◌≡◌, ℕ, zero, suc, ◌≤◌, Bool, false, List, [], ◌∷◌, ◌++◌, length, take, refl, sym, ◌∙◌, ap, subst, arith, None, Some, ℤ, pos, ◌≤ℤ◌}
use Rattle.std.specs.Prelude.{All}
use Rattle.std.proofs.lemmas.Int.{ints}
use Rattle.mr_values.specs.declared.plan.Element.{Element}
use Rattle.mr_values.specs.declared.plan.Element.TheVariants.{Up, Down, Filter, CicDown, CicUp, Round, Clip}
use Rattle.mr_values.specs.declared.plan.Form.{Form}
use Rattle.mr_values.specs.declared.plan.Plan.{Plan}
use Rattle.mr_values.specs.Timing.{Group, Fir, DownCic, UpCic, Rounding, Clipping, groups, join_up, join_filter}
use Rattle.mr_values.specs.Value.{IsWithinLimits, size, chain}
use Rattle.plan_check.specs.Accepted.{IsAccepted}
use Rattle.plan_check.proofs.GroupSplit.{size_low, tail_limits}
use Rattle.plan_laws.proofs.Passes.{passes_of}
use Rattle.impulse_phase.specs.Response.{AreLinear}
use Rattle.stage_law.specs.Registers.{TellsRanges}
use Rattle.width_extreme.specs.Prefix.{IsStream}
use Rattle.width_extreme.proofs.Modest.{plan-modest}
use Rattle.width_extreme.proofs.Ranges.{prefix-range-is}
use Rattle.chain_build.specs.Built.{has_rounding}
use Rattle.chain_build.specs.Linear.{prefix_range}
use Rattle.chain_build.specs.Prefixes.{IsExactPrefix}
use Rattle.chain_build.proofs.Prefixes.{sizes, prefixed}

-- ---- elements none of which rounds

rounding-up : (l : ℕ) (gs : List Group) → has_rounding (join_up l gs) ≡ has_rounding gs
rounding-up l [] = refl
rounding-up l (Fir None f d ∷ gs) = refl
rounding-up l (Fir (Some u) f d ∷ gs) = refl
rounding-up l (DownCic r n m ∷ gs) = refl
rounding-up l (UpCic r n m ∷ gs) = refl
rounding-up l (Rounding s m ∷ gs) = refl
rounding-up l (Clipping bits ∷ gs) = refl

rounding-filter : (taps : List ℤ) (form : Form) (gs : List Group) → has_rounding (join_filter taps form gs) ≡ has_rounding gs
rounding-filter taps form [] = refl
rounding-filter taps form (Fir None None d ∷ gs) = refl
rounding-filter taps form (Fir None (Some f) d ∷ gs) = refl
rounding-filter taps form (Fir (Some u) None d ∷ gs) = refl
rounding-filter taps form (Fir (Some u) (Some f) d ∷ gs) = refl
rounding-filter taps form (DownCic r n m ∷ gs) = refl
rounding-filter taps form (UpCic r n m ∷ gs) = refl
rounding-filter taps form (Rounding s m ∷ gs) = refl
rounding-filter taps form (Clipping bits ∷ gs) = refl

pub unrounded-linear : (es : List Element) → All IsWithinLimits es → has_rounding (groups es) ≡ false → AreLinear es
unrounded-linear [] limits none = tt
unrounded-linear (Up factor ∷ es) limits none =
    (size_low 4096 factor (limits 0 (Up factor) (omega arith)), unrounded-linear es (tail_limits (Up factor) es limits) (sym (rounding-up (size factor) (groups es)) ∙ none))
unrounded-linear (Down factor ∷ es) limits none = (size_low 4096 factor (limits 0 (Down factor) (omega arith)), unrounded-linear es (tail_limits (Down factor) es limits) none)
unrounded-linear (Filter taps form ∷ es) limits none = (tt, unrounded-linear es (tail_limits (Filter taps form) es limits) (sym (rounding-filter taps form (groups es)) ∙ none))
unrounded-linear (CicDown factor stages delay ∷ es) limits none =
    (size_low 4096 factor (limits 0 (CicDown factor stages delay) (omega arith)).0, unrounded-linear es (tail_limits (CicDown factor stages delay) es limits) none)
unrounded-linear (CicUp factor stages delay ∷ es) limits none =
    (size_low 4096 factor (limits 0 (CicUp factor stages delay) (omega arith)).0, unrounded-linear es (tail_limits (CicUp factor stages delay) es limits) none)
unrounded-linear (Round shift mode ∷ es) limits none = absurd (cc)
unrounded-linear (Clip bits ∷ es) limits none = absurd (cc)

-- ---- the first of them

pub limits-take : (n : ℕ) (es : List Element) → All IsWithinLimits es → All IsWithinLimits (take n es)
limits-take zero es limits k d below = absurd (omega arith)
limits-take (suc n) [] limits k d below = absurd (omega arith)
limits-take (suc n) (e ∷ es) limits zero d below = limits 0 d (omega arith)
limits-take (suc n) (e ∷ es) limits (suc k) d below = limits-take n es (tail_limits e es limits) k d (omega arith)

pub prefix-linear : (es : List Element) (first left : List Group) → All IsWithinLimits es → groups es ≡ first ++ left → has_rounding first ≡ false → AreLinear (take (sizes first) es)
prefix-linear es first left limits parts none =
    unrounded-linear (take (sizes first) es) (limits-take (sizes first) es limits) (ap has_rounding (prefixed es first left parts) ∙ none)

pub exact-prefix : (plan : Plan) (taken : ℕ) → IsAccepted plan → taken ≤ length plan.elements → AreLinear (take taken plan.elements) → IsExactPrefix plan taken
exact-prefix plan taken accepted within linear =
    let l = (passes_of plan accepted).limits in
    record {
      width_low = low plan.width l.width_low;
      width_high = l.width_high;
      within = within;
      linear = linear;
      limits = limits-take taken plan.elements l.elements;
      modest = plan-modest plan taken accepted linear;
    }
  where
    low : (z : ℤ) → pos 2 ≤ℤ z → pos 1 ≤ℤ z
    low z h = omega (arith, ints, h)

-- the ranges that the definition tells are those over the streams
pub prefix-tells : (es : List Element) (width : ℕ) → AreLinear es → TellsRanges (IsStream (chain es) width) (prefix_range width es)
prefix-tells es width linear = record { each = λ form class below. prefix-range-is es width form class linear below }

take-all : (es : List Element) → take (length es) es ≡ es
take-all [] = refl
take-all (e ∷ es) = ap (λ (rest : List Element). e ∷ rest) (take-all es)

-- all elements of a plan that doesn't round
pub whole-exact : (plan : Plan) (rounded : Bool) (n : ℕ) → IsAccepted plan → rounded ≡ has_rounding (groups plan.elements) → rounded ≡ false → n ≡ length plan.elements → IsExactPrefix plan n
whole-exact plan rounded n accepted is none all =
    subst (IsExactPrefix plan) (sym all)
    (exact-prefix plan (length plan.elements) accepted (omega arith) (subst AreLinear (sym (take-all plan.elements)) (unrounded-linear plan.elements (passes_of plan accepted).limits.elements (sym is ∙ none))))

pub take-whole : (es : List Element) (n : ℕ) → n ≡ length es → take n es ≡ es
take-whole es n is = ap (λ (k : ℕ). take k es) is ∙ take-all es
