-- What a filter of each form that is built does as a stage, how great its sums are, and what it costs.
use Rattle.std.proofs.Common.{◌≡◌, ℕ, ◌+◌, ◌-◌, ◌/◌, ◌<◌, ◌≤◌, refl, sym, ◌∙◌, ap, arith, List, [], ◌∷◌, length, ℤ, pos, ◌+ℤ◌, ◌-ℤ◌, ◌*ℤ◌, Option, None, Some, Bool, true, false, ◌&&◌}
use Rattle.std.specs.Prelude.{unsigned_abs, unwrap_or, is_none, nat_le, ◌||◌}
use Rattle.std.proofs.lemmas.Bool.{leb-true}
use Rattle.std.proofs.Math.Path.{fun_ext}
use Rattle.std.proofs.lemmas.Int.{ints}
use Rattle.distributed_table.specs.Facts.{distributed_facts}
use Rattle.mr_values.specs.declared.plan.Form.{Form}
use Rattle.mr_values.specs.declared.plan.Form.TheVariants.{Parallel, Symmetric, HalfBand, Folded, Distributed}
use Rattle.mr_values.proofs.Plain.{up-one}
use Rattle.mr_values.specs.Sequence.{Sequence, up, down, filter}
use Rattle.mr_values.specs.Value.{chain, size}
use Rattle.mr_values.specs.Timing.{Group, Fir, Stream, ceil_div, ceil_log, wide, up_factor, down_factor, group_delay, form_delay, form_of, taps_of}
use Rattle.plan_check.specs.Amounts.{magnitude}
use Rattle.plan_check.specs.Costs.{memory_of}
use Rattle.plan_check.specs.Forms.{Flow, flow_of, form_fits, group_fits, is_symmetric, is_antisymmetric}
use Rattle.plan_check.specs.StageCosts.{StageCost, form_cost, cost}
use Rattle.plan_laws.proofs.Reach.{apply_group, optional, filter_by}
use Rattle.polyphase_fir.specs.Facts.{polyphase_facts}
use Rattle.polyphase_fir.proofs.CostLemmas.{adders-phases}
use Rattle.stage_law.specs.Facts.{StageFacts}
use Rattle.stage_law.specs.Kinds.{is_linear, carries_uncut}
use Rattle.stage_law.specs.Streams.{magnitudes}
use Rattle.symmetric_fir.specs.Facts.{mirror_facts}
use Rattle.symmetric_fir.proofs.CostLemmas.{mirror-adders}
use Rattle.chain_build.specs.Forms.{is_built_form, form_kind, anti_of, fir_facts}
use Rattle.chain_build.proofs.SampleBounds.{ceil_div-fewer}

-- what a stage is of a group on a stream of this flow
pub record IsFactsOf (g : Group) (flow : Flow) (facts : StageFacts) : Type 0 where
  pub does : (v : Sequence) → chain facts.elements v ≡ apply_group g v
  pub up : facts.up ≡ up_factor g
  pub down : facts.down ≡ down_factor g
  pub delay : (s : Stream) → flow_of s ≡ flow → facts.delay s.period ≡ group_delay g s

-- the stage costs what the group does
pub record CostsAs (g : Group) (facts : StageFacts) : Type 0 where
  pub adders : facts.adders ≡ (cost g).adders
  pub windows : facts.windows ≡ (cost g).windows
  pub tables : facts.tables ≡ (cost g).tables

-- ---- a group without an Up, a Filter or a Down

up-optional : (u : Option ℕ) (v : Sequence) → up (unwrap_or u 1) v ≡ optional up u v
up-optional None v = up-one v
up-optional (Some factor) v = refl

pub filter-one : (v : Sequence) → filter (pos 1 ∷ []) v ≡ v
filter-one v = fun_ext (λ n. let at : n -ℤ pos 0 ≡ n = omega (arith, ints) in rw at (one_term (v n)))
  where
    one_term : (z : ℤ) → pos 1 *ℤ z +ℤ pos 0 ≡ z
    one_term z = omega (arith, ints)

filter-optional : (f : Option (List ℤ × Form)) (v : Sequence) → filter (taps_of f) v ≡ optional filter_by f v
filter-optional None v = filter-one v
filter-optional (Some f) v = refl

down-one : (v : Sequence) → down 1 v ≡ v
down-one v = fun_ext (λ n. ap v (omega (arith, ints)))

down-optional : (d : Option ℕ) (v : Sequence) → down (unwrap_or d 1) v ≡ optional down d v
down-optional None v = down-one v
down-optional (Some factor) v = refl

-- ---- the kind of a form

pub fir-kind : (form : Form) (taps : List ℤ) (up down bits : ℕ) → (fir_facts form taps up down bits).kind ≡ form_kind form
fir-kind Parallel taps up down bits = refl
fir-kind Symmetric taps up down bits = refl
fir-kind HalfBand taps up down bits = refl
fir-kind (Folded slots) taps up down bits = refl
fir-kind (Distributed group) taps up down bits = refl

pub form-carries : (form : Form) → carries_uncut (form_kind form) ≡ true
form-carries Parallel = refl
form-carries Symmetric = refl
form-carries HalfBand = refl
form-carries (Folded slots) = refl
form-carries (Distributed group) = refl

-- a form that is not linear has no linear registers
pub unlinear-fir : (form : Form) (taps : List ℤ) (up down bits period : ℕ) → is_linear (form_kind form) ≡ false → (fir_facts form taps up down bits).registers period ≡ []
unlinear-fir Parallel taps up down bits period e = absurd (cc)
unlinear-fir Symmetric taps up down bits period e = absurd (cc)
unlinear-fir HalfBand taps up down bits period e = refl
unlinear-fir (Folded slots) taps up down bits period e = refl
unlinear-fir (Distributed group) taps up down bits period e = refl

-- ---- parallel filters

parallel-is : (u : Option ℕ) (f : Option (List ℤ × Form)) (d : Option ℕ) (flow : Flow) → form_of f ≡ Parallel → IsFactsOf (Fir u f d) flow (polyphase_facts (taps_of f) (unwrap_or u 1) (unwrap_or d 1))
parallel-is u f d flow plain = record {
  does = λ v.
      ap (λ (x : Sequence). down (unwrap_or d 1) (filter (taps_of f) x)) (up-optional u v)
      ∙ ap (down (unwrap_or d 1)) (filter-optional f (optional up u v))
      ∙ down-optional d (optional filter_by f (optional up u v));
  up = refl;
  down = refl;
  delay = λ s is. ap (λ (form : Form). form_delay form (unwrap_or u 1) (taps_of f) s) (sym plain);
}

parallel-costs : (u : Option ℕ) (f : Option (List ℤ × Form)) (d : Option ℕ) → form_of f ≡ Parallel → CostsAs (Fir u f d) (polyphase_facts (taps_of f) (unwrap_or u 1) (unwrap_or d 1))
parallel-costs u f d plain =
    let up = unwrap_or u 1 in
    let taps = taps_of f in
    let same : form_cost Parallel up taps ≡ cost (Fir u f d) = ap (λ (form : Form). form_cost form up taps) (sym plain) in
    record {
      adders = adders-phases up taps up ∙ ap (λ (c : StageCost). c.adders) same;
      windows = ap (λ (c : StageCost). c.windows) same;
      tables = ap (λ (c : StageCost). c.tables) same;
    }

-- ---- mirrored filters

both : (a b : Bool) → (a && b) ≡ true → (a ≡ true) × (b ≡ true)
both true b e = (refl, e)
both false b e = absurd (cc)

-- what the test of the form says
pub record IsMirrorGroup (u : Option ℕ) (taps : List ℤ) : Type 0 where
  pub alone : is_none u ≡ true
  pub mirrored : (is_symmetric taps || is_antisymmetric taps) ≡ true

pub mirror-fits : (u : Option ℕ) (taps : List ℤ) (d : Option ℕ) (period : ℕ) (flow : Flow) → form_fits Symmetric u taps d period flow ≡ true → IsMirrorGroup u taps
mirror-fits u taps d period flow e = let parts = both (is_none u) (is_symmetric taps || is_antisymmetric taps) e in record { alone = parts.0; mirrored = parts.1 }

mirror-is : (u : Option ℕ) (taps : List ℤ) (d : Option ℕ) (flow : Flow) (anti : ℕ) → is_none u ≡ true → IsFactsOf (Fir u (Some (taps, Symmetric)) d) flow (mirror_facts anti taps (unwrap_or d 1))
mirror-is (Some factor) taps d flow anti alone = absurd (cc)
mirror-is None taps d flow anti alone = record {
  does = λ v. down-optional d (filter taps v);
  up = refl;
  down = refl;
  delay = λ s is. refl;
}

mirror-costs : (u : Option ℕ) (taps : List ℤ) (d : Option ℕ) (anti : ℕ) → CostsAs (Fir u (Some (taps, Symmetric)) d) (mirror_facts anti taps (unwrap_or d 1))
mirror-costs u taps d anti = record { adders = mirror-adders anti taps (unwrap_or d 1); windows = refl; tables = refl }

-- ---- filters by distributed arithmetic

-- what the test of the form says
pub record IsSerialGroup (u : Option ℕ) (bits period : ℕ) : Type 0 where
  pub alone : is_none u ≡ true
  pub enough : bits ≤ period

pub serial-fits : (group : ℤ) (u : Option ℕ) (taps : List ℤ) (d : Option ℕ) (period : ℕ) (flow : Flow) → form_fits (Distributed group) u taps d period flow ≡ true → IsSerialGroup u (wide flow.low flow.high) period
serial-fits group u taps d period flow e = let parts = both (is_none u) (nat_le (wide flow.low flow.high) period) e in record { alone = parts.0; enough = leb-true (wide flow.low flow.high) period parts.1 }

serial-is : (group : ℤ) (u : Option ℕ) (taps : List ℤ) (d : Option ℕ) (flow : Flow) → is_none u ≡ true → IsFactsOf (Fir u (Some (taps, Distributed group)) d) flow (distributed_facts (size group) taps (unwrap_or d 1) (wide flow.low flow.high))
serial-is group (Some factor) taps d flow alone = absurd (cc)
serial-is group None taps d flow alone = record {
  does = λ v. down-optional d (filter taps v);
  up = refl;
  down = refl;
  delay = λ s is. ap (λ (f : Flow). 2 + wide f.low f.high + ceil_log (ceil_div (length taps) (size group))) (sym is);
}

serial-costs : (group : ℤ) (u : Option ℕ) (taps : List ℤ) (d : Option ℕ) (bits : ℕ) → CostsAs (Fir u (Some (taps, Distributed group)) d) (distributed_facts (size group) taps (unwrap_or d 1) bits)
serial-costs group u taps d bits = record { adders = refl; windows = refl; tables = refl }

-- ---- all forms that are built

form-is : (form : Form) (taps : List ℤ) (u d : Option ℕ) (flow : Flow) → is_built_form form ≡ true → group_fits (Fir u (Some (taps, form)) d) flow ≡ true → IsFactsOf (Fir u (Some (taps, form)) d) flow (fir_facts form taps (unwrap_or u 1) (unwrap_or d 1) (wide flow.low flow.high))
form-is Parallel taps u d flow built fits = parallel-is u (Some (taps, Parallel)) d flow refl
form-is Symmetric taps u d flow built fits = mirror-is u taps d flow (anti_of taps) (mirror-fits u taps d 0 flow fits).alone
form-is HalfBand taps u d flow built fits = absurd (cc)
form-is (Folded slots) taps u d flow built fits = absurd (cc)
form-is (Distributed group) taps u d flow built fits = serial-is group u taps d flow (serial-fits group u taps d _ flow fits).alone

pub fir-is : (u : Option ℕ) (f : Option (List ℤ × Form)) (d : Option ℕ) (flow : Flow) → is_built_form (form_of f) ≡ true → group_fits (Fir u f d) flow ≡ true → IsFactsOf (Fir u f d) flow (fir_facts (form_of f) (taps_of f) (unwrap_or u 1) (unwrap_or d 1) (wide flow.low flow.high))
fir-is u None d flow built fits = parallel-is u None d flow refl
fir-is u (Some f) d flow built fits = form-is f.1 f.0 u d flow built fits

form-costs : (form : Form) (taps : List ℤ) (u d : Option ℕ) (bits : ℕ) → is_built_form form ≡ true → CostsAs (Fir u (Some (taps, form)) d) (fir_facts form taps (unwrap_or u 1) (unwrap_or d 1) bits)
form-costs Parallel taps u d bits built = parallel-costs u (Some (taps, Parallel)) d refl
form-costs Symmetric taps u d bits built = mirror-costs u taps d (anti_of taps)
form-costs HalfBand taps u d bits built = absurd (cc)
form-costs (Folded slots) taps u d bits built = absurd (cc)
form-costs (Distributed group) taps u d bits built = serial-costs group u taps d bits

pub fir-costs : (u : Option ℕ) (f : Option (List ℤ × Form)) (d : Option ℕ) (bits : ℕ) → is_built_form (form_of f) ≡ true → CostsAs (Fir u f d) (fir_facts (form_of f) (taps_of f) (unwrap_or u 1) (unwrap_or d 1) bits)
fir-costs u None d bits built = parallel-costs u None d refl
fir-costs u (Some f) d bits built = form-costs f.1 f.0 u d bits built

-- ---- how great and how long the sums are

pub same_magnitudes : (taps : List ℤ) → magnitudes taps ≡ magnitude taps
same_magnitudes [] = refl
same_magnitudes (c ∷ cs) = ap (λ (n : ℕ). unsigned_abs c + n) (same_magnitudes cs)

pub fir-gain : (form : Form) (taps : List ℤ) (up down bits : ℕ) → is_built_form form ≡ true → (fir_facts form taps up down bits).gain ≡ magnitude taps
fir-gain Parallel taps up down bits built = same_magnitudes taps
fir-gain Symmetric taps up down bits built = same_magnitudes taps
fir-gain HalfBand taps up down bits built = absurd (cc)
fir-gain (Folded slots) taps up down bits built = absurd (cc)
fir-gain (Distributed group) taps up down bits built = same_magnitudes taps

one_more : (taps : List ℤ) (up : ℕ) → 0 < up → (longest : ℕ) → longest ≡ ceil_div (length taps) up + 1 → longest ≤ (length taps - 1) / up + 2
one_more taps up some longest same = let fewer = ceil_div-fewer (length taps) up some in omega (arith, same, fewer)

form-short : (form : Form) (taps : List ℤ) (u d : Option ℕ) (flow : Flow) (bits : ℕ) → is_built_form form ≡ true → group_fits (Fir u (Some (taps, form)) d) flow ≡ true → 0 < unwrap_or u 1 → (fir_facts form taps (unwrap_or u 1) (unwrap_or d 1) bits).longest ≤ (length taps - 1) / unwrap_or u 1 + 2
form-short Parallel taps u d flow bits built fits some = one_more taps (unwrap_or u 1) some _ refl
form-short Symmetric taps None d flow bits built fits some = omega arith
form-short Symmetric taps (Some factor) d flow bits built fits some = absurd (let alone = (mirror-fits (Some factor) taps d 0 flow fits).alone in cc)
form-short HalfBand taps u d flow bits built fits some = absurd (cc)
form-short (Folded slots) taps u d flow bits built fits some = absurd (cc)
form-short (Distributed group) taps u d flow bits built fits some = omega arith

-- as many as the values that the group remembers, and two more
pub fir-short : (u : Option ℕ) (f : Option (List ℤ × Form)) (d : Option ℕ) (flow : Flow) (bits : ℕ) → is_built_form (form_of f) ≡ true → group_fits (Fir u f d) flow ≡ true → 0 < unwrap_or u 1
    → (fir_facts (form_of f) (taps_of f) (unwrap_or u 1) (unwrap_or d 1) bits).longest ≤ memory_of (Fir u f d) / unwrap_or u 1 + 2
fir-short u None d flow bits built fits some = one_more (taps_of None) (unwrap_or u 1) some _ refl
fir-short u (Some f) d flow bits built fits some = form-short f.1 f.0 u d flow bits built fits some
