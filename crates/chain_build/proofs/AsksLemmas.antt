-- What the form of a group asks holds where it fits the group.
use Rattle.std.proofs.Common.{◌≡◌, ℕ, ◌*◌, ◌/◌, ◌≤◌, ◌∙◌, refl, sym, ap, arith, subst, true, List, ℤ, Option, None, Some}
use Rattle.std.specs.Prelude.{unwrap_or, is_none}
use Rattle.mr_values.specs.declared.plan.Form.{Form}
use Rattle.mr_values.specs.declared.plan.Form.TheVariants.{Parallel, Symmetric, HalfBand, Folded, Distributed}
use Rattle.mr_values.specs.Timing.{Fir, wide, taps_of, form_of}
use Rattle.plan_check.specs.Forms.{Flow, group_fits}
use Rattle.plan_check.specs.Groups.{IsGroup}
use Rattle.chain_build.specs.Forms.{AsksForm}
use Rattle.chain_build.proofs.FormFacts.{mirror-fits, serial-fits}

alone_one : (u : Option ℕ) → is_none u ≡ true → unwrap_or u 1 ≡ 1
alone_one None e = refl
alone_one (Some factor) e = absurd (cc)

ticks_whole : (u : Option ℕ) (period down : ℕ) → is_none u ≡ true → period * down / unwrap_or u 1 ≤ period * down
ticks_whole None period down e = omega arith
ticks_whole (Some factor) period down e = absurd (cc)

of_form : (form : Form) (taps : List ℤ) (u d : Option ℕ) (flow : Flow) → IsGroup (Fir u (Some (taps, form)) d) → group_fits (Fir u (Some (taps, form)) d) flow ≡ true → AsksForm form taps (unwrap_or u 1) (unwrap_or d 1) (wide flow.low flow.high) flow.period
of_form Parallel taps u d flow limits fits = tt
of_form Symmetric taps u d flow limits fits = (mirror-fits u taps d 0 flow fits).mirrored
of_form HalfBand taps u d flow limits fits = tt
of_form (Folded slots) taps u d flow limits fits = tt
of_form (Distributed group) taps u d flow limits fits =
    let own = serial-fits group u taps d _ flow fits in
    let whole = ticks_whole u flow.period (unwrap_or d 1) own.alone in
    let enough = own.enough in
    record { some = limits.filter_form.0; few = limits.filter_form.1; alone = alone_one u own.alone; enough = omega (arith, whole, enough) }

of_group : (u : Option ℕ) (f : Option (List ℤ × Form)) (d : Option ℕ) (flow : Flow) → IsGroup (Fir u f d) → group_fits (Fir u f d) flow ≡ true → AsksForm (form_of f) (taps_of f) (unwrap_or u 1) (unwrap_or d 1) (wide flow.low flow.high) flow.period
of_group u None d flow limits fits = tt
of_group u (Some f) d flow limits fits = of_form f.1 f.0 u d flow limits fits

pub asks_form : (u : Option ℕ) (f : Option (List ℤ × Form)) (d : Option ℕ) (flow : Flow) (form : Form) (taps : List ℤ) (up down bits : ℕ)
    → form ≡ form_of f → taps ≡ taps_of f → up ≡ unwrap_or u 1 → down ≡ unwrap_or d 1 → bits ≡ wide flow.low flow.high → IsGroup (Fir u f d) → group_fits (Fir u f d) flow ≡ true
    → AsksForm form taps up down bits flow.period
asks_form u f d flow form taps up down bits form_is taps_is up_is down_is bits_is limits fits =
    let same : AsksForm form taps up down bits flow.period ≡ AsksForm (form_of f) (taps_of f) (unwrap_or u 1) (unwrap_or d 1) (wide flow.low flow.high) flow.period = λ i. AsksForm (form_is i) (taps_is i) (up_is i) (down_is i) (bits_is i) flow.period in
    subst (λ (X : Type 0). X) (sym same) (of_group u f d flow limits fits)
