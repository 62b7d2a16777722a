-- What it says of a plan that its numbers pass the tests of their limits.
use Rattle.std.proofs.Common.{◌≡◌, ℕ, zero, suc, ◌^◌, arith, List, [], ◌∷◌, length, None, ℤ, pos, neg_ℤ, ◌≤ℤ◌}
use Rattle.std.specs.Prelude.{All}
use Rattle.std.proofs.lemmas.Int.{ints}
use Rattle.mr_values.specs.declared.plan.Element.{Element}
use Rattle.mr_values.specs.declared.plan.Element.TheVariants.{Up, Down, Filter, CicDown, CicUp, Round, Clip}
use Rattle.mr_values.specs.declared.plan.Form.{Form}
use Rattle.mr_values.specs.declared.plan.Form.TheVariants.{Parallel, Symmetric, HalfBand, Folded, Distributed}
use Rattle.mr_values.specs.declared.plan.Plan.{Plan}
use Rattle.mr_values.specs.Value.{IsFromOne, IsForm, IsWithinLimits}
use Rattle.plan_check.specs.declared.fault.LimitWhich.{LimitWhich}
use Rattle.plan_check.specs.declared.fault.LimitWhich.TheVariants.{Width, Ticks, Elements, Factor, Stages, Delay, Taps, Tap, Slots, Group, Shift, Bits}
use Rattle.plan_check.specs.Limits.{limit_test, taps_test, form_test, cic_test, element_test, elements_test, limits_test, HasLimits}
use Rattle.plan_check.proofs.Options.{none_of}

limit_passes : (element : ℕ) (which : LimitWhich) (value least greatest : ℤ) → limit_test element which value least greatest ≡ None → (least ≤ℤ value) × (value ≤ℤ greatest)
limit_passes element which value least greatest e = (grind (arith, ints), grind (arith, ints))

abbrev IsTap : ℤ → Type 0
IsTap c = (neg_ℤ (pos (2 ^ 62)) ≤ℤ c) × (c ≤ℤ pos (2 ^ 62))

taps_pass : (element : ℕ) (taps : List ℤ) → taps_test element taps ≡ None → All IsTap taps
taps_pass element [] e k d below = absurd (omega arith)
taps_pass element (c ∷ cs) e zero d below = limit_passes element Tap c _ _ (none_of _ _ e).0
taps_pass element (c ∷ cs) e (suc k) d below = taps_pass element cs (none_of _ _ e).1 k d (omega arith)

form_passes : (element : ℕ) (form : Form) → form_test element form ≡ None → IsForm form
form_passes element Parallel e = tt
form_passes element Symmetric e = tt
form_passes element HalfBand e = tt
form_passes element (Folded slots) e = limit_passes element Slots slots _ _ e
form_passes element (Distributed group) e = limit_passes element Group group _ _ e

cic_passes : (element : ℕ) (factor stages delay : ℤ) → cic_test element factor stages delay ≡ None → IsFromOne 4096 factor × IsFromOne 8 stages × IsFromOne 2 delay
cic_passes element factor stages delay e =
    let first = none_of _ _ e in
    let second = none_of _ _ first.1 in
    (limit_passes element Factor factor _ _ first.0, limit_passes element Stages stages _ _ second.0, limit_passes element Delay delay _ _ second.1)

element_passes : (element : ℕ) (e : Element) → element_test element e ≡ None → IsWithinLimits e
element_passes element (Up factor) h = limit_passes element Factor factor _ _ h
element_passes element (Down factor) h = limit_passes element Factor factor _ _ h
element_passes element (Filter taps form) h =
    let first = none_of _ _ h in
    let second = none_of _ _ first.1 in
    let count = limit_passes element Taps (pos (length taps)) (pos 1) (pos 1024) first.0 in
    ((omega (arith, ints, count.0), omega (arith, ints, count.1), taps_pass element taps second.0), form_passes element form second.1)
element_passes element (CicDown factor stages delay) h = cic_passes element factor stages delay h
element_passes element (CicUp factor stages delay) h = cic_passes element factor stages delay h
element_passes element (Round shift mode) h = limit_passes element Shift shift _ _ h
element_passes element (Clip bits) h = limit_passes element Bits bits _ _ h

elements_pass : (first : ℕ) (es : List Element) → elements_test first es ≡ None → All IsWithinLimits es
elements_pass first [] h k d below = absurd (omega arith)
elements_pass first (e ∷ es) h zero d below = element_passes first e (none_of _ _ h).0
elements_pass first (e ∷ es) h (suc k) d below = elements_pass (suc first) es (none_of _ _ h).1 k d (omega arith)

pub has_limits : (plan : Plan) → limits_test plan ≡ None → HasLimits plan
has_limits plan h =
    let first = none_of _ _ h in
    let own = none_of _ _ first.0 in
    let second = none_of _ _ first.1 in
    let width = limit_passes 0 Width plan.width (pos 2) (pos 64) own.0 in
    let ticks = limit_passes 0 Ticks plan.ticks (pos 1) (pos 65536) own.1 in
    let count = limit_passes 0 Elements (pos (length plan.elements)) (pos 1) (pos 32) second.0 in
    record {
      width_low = width.0;
      width_high = width.1;
      ticks_low = ticks.0;
      ticks_high = ticks.1;
      few = omega (arith, ints, count.1);
      elements = elements_pass 1 plan.elements second.1;
    }
