-- A group as a stage does to a sequence what its elements do.
use Rattle.std.proofs.Common.{◌≡◌, ℕ, ◌+◌, ◌-◌, ◌*◌, ◌/◌, ◌<◌, refl, sym, ◌∙◌, ap, arith, subst, true}
use Rattle.cic_chain.specs.Facts.{cic_down_facts, cic_up_facts}
use Rattle.chain_build.specs.Built.{IsBuiltGroup, IsPlainGroup}
use Rattle.stage_law.specs.Kinds.{carries_uncut}
use Rattle.mr_values.specs.declared.plan.Mode.{Mode}
use Rattle.mr_values.specs.declared.plan.Mode.TheVariants.{HalfUp, HalfEven, Floor}
use Rattle.mr_values.specs.Timing.{Group, Fir, DownCic, UpCic, Rounding, Clipping, wide, taps_of, form_of}
use Rattle.std.specs.Prelude.{unwrap_or}
use Rattle.plan_check.specs.Forms.{Flow, group_fits}
use Rattle.plan_check.specs.Groups.{IsGroup}
use Rattle.rounding_stage.specs.Clipping.{clipping_facts}
use Rattle.rounding_stage.specs.Rounding.{rounding_facts}
use Rattle.stage_law.specs.Facts.{StageFacts}
use Rattle.chain_build.specs.Added.{HasFacts}
use Rattle.chain_build.proofs.FormFacts.{IsFactsOf, CostsAs, fir-is, fir-kind, form-carries, fir-costs}

rounding-is : (shift : ℕ) (mode : Mode) (flow : Flow) → IsFactsOf (Rounding shift mode) flow (rounding_facts shift mode)
rounding-is shift mode flow = record { does = λ v. refl; up = refl; down = refl; delay = λ s is. refl }

clipping-is : (bits : ℕ) (flow : Flow) → IsFactsOf (Clipping bits) flow (clipping_facts bits)
clipping-is bits flow = record { does = λ v. refl; up = refl; down = refl; delay = λ s is. refl }

down-is : (factor stages delay : ℕ) (flow : Flow) → IsFactsOf (DownCic factor stages delay) flow (cic_down_facts factor stages delay)
down-is factor stages delay flow = record { does = λ v. refl; up = refl; down = refl; delay = λ s is. refl }

up-is : (factor stages delay : ℕ) (flow : Flow) → IsFactsOf (UpCic factor stages delay) flow (cic_up_facts factor stages delay)
up-is factor stages delay flow = record {
  does = λ v. refl;
  up = refl;
  down = refl;
  delay = λ s is. let same : s.period ≡ s.period * 1 = omega arith in ap (λ (n : ℕ). stages + (stages - 1) * (n / factor) + 1) same;
}

pub facts-is : (g : Group) (flow : Flow) (facts : StageFacts) → IsBuiltGroup g → group_fits g flow ≡ true → HasFacts g flow facts → IsFactsOf g flow facts
facts-is (Fir u f d) flow facts is fits h = subst (IsFactsOf (Fir u f d) flow) (sym h) (fir-is u f d flow is fits)
facts-is (DownCic factor stages delay) flow facts is fits h = subst (IsFactsOf (DownCic factor stages delay) flow) (sym h) (down-is factor stages delay flow)
facts-is (UpCic factor stages delay) flow facts is fits h = subst (IsFactsOf (UpCic factor stages delay) flow) (sym h) (up-is factor stages delay flow)
facts-is (Rounding shift mode) flow facts is fits h = subst (IsFactsOf (Rounding shift mode) flow) (sym h) (rounding-is shift mode flow)
facts-is (Clipping bits) flow facts is fits h = subst (IsFactsOf (Clipping bits) flow) (sym h) (clipping-is bits flow)

-- a group that doesn't round carries its elements in the uncut run too
pub plain-carries : (g : Group) (flow : Flow) (facts : StageFacts) → IsPlainGroup g → HasFacts g flow facts → carries_uncut facts.kind ≡ true
plain-carries (Fir u f d) flow facts plain h =
    ap (λ (e : StageFacts). carries_uncut e.kind) h ∙ ap carries_uncut (fir-kind (form_of f) (taps_of f) (unwrap_or u 1) (unwrap_or d 1) (wide flow.low flow.high)) ∙ form-carries (form_of f)
plain-carries (DownCic factor stages delay) flow facts plain h = ap (λ (e : StageFacts). carries_uncut e.kind) h
plain-carries (UpCic factor stages delay) flow facts plain h = ap (λ (e : StageFacts). carries_uncut e.kind) h
plain-carries (Rounding shift mode) flow facts plain h = absurd plain
plain-carries (Clipping bits) flow facts plain h = absurd plain

-- a group takes a value for each that it gives, or more
pub some-down : (g : Group) {flow : Flow} (facts : StageFacts) → IsFactsOf g flow facts → IsGroup g → 0 < facts.down
some-down (Fir u f d) facts own limits = let same = own.down in let low = limits.down_low in omega (arith, same, low)
some-down (DownCic factor stages delay) facts own limits = let same = own.down in let low = limits.factor_low in omega (arith, same, low)
some-down (UpCic factor stages delay) facts own limits = let same = own.down in omega (arith, same)
some-down (Rounding shift mode) facts own limits = let same = own.down in omega (arith, same)
some-down (Clipping bits) facts own limits = let same = own.down in omega (arith, same)

-- ---- costs

rounding-costs : (shift : ℕ) (mode : Mode) → CostsAs (Rounding shift mode) (rounding_facts shift mode)
rounding-costs shift HalfUp = record { adders = refl; windows = refl; tables = refl }
rounding-costs shift HalfEven = record { adders = refl; windows = refl; tables = refl }
rounding-costs shift Floor = record { adders = refl; windows = refl; tables = refl }

pub costs-as : (g : Group) (flow : Flow) (facts : StageFacts) → IsBuiltGroup g → HasFacts g flow facts → CostsAs g facts
costs-as (Fir u f d) flow facts is h = subst (CostsAs (Fir u f d)) (sym h) (fir-costs u f d (wide flow.low flow.high) is)
costs-as (DownCic factor stages delay) flow facts is h = subst (CostsAs (DownCic factor stages delay)) (sym h) (record { adders = refl; windows = refl; tables = refl })
costs-as (UpCic factor stages delay) flow facts is h = subst (CostsAs (UpCic factor stages delay)) (sym h) (record { adders = refl; windows = refl; tables = refl })
costs-as (Rounding shift mode) flow facts is h = subst (CostsAs (Rounding shift mode)) (sym h) (rounding-costs shift mode)
costs-as (Clipping bits) flow facts is h = subst (CostsAs (Clipping bits)) (sym h) (record { adders = refl; windows = refl; tables = refl })
