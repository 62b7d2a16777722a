-- The sums of an accepted plan's linear registers read few samples.
use Rattle.std.proofs.Common.{◌≡◌, ◌∙◌, ℕ, zero, suc, ◌+◌, ◌*◌, ◌/◌, ◌%◌, ◌^◌, ◌<◌, ◌≤◌, sym, ap, subst, arith, true, false, nat_eq, List, [], ◌∷◌, ◌++◌, append-nil, length, Some, slice_get, pos}
use Rattle.std.proofs.Math.Nat.{mul-le-mul_right}
use Rattle.std.proofs.lemmas.Int.{ints}
use Rattle.mr_values.specs.declared.plan.Element.{Element}
use Rattle.mr_values.specs.declared.plan.Plan.{Plan}
use Rattle.mr_values.specs.Timing.{Group, Fir, DownCic, UpCic, Rounding, Clipping, ceil_div, groups, wide, up_factor, down_factor}
use Rattle.mr_values.specs.Value.{size}
use Rattle.plan_check.specs.Accepted.{IsAccepted}
use Rattle.plan_check.specs.Costs.{memory_of, gcd_to, gcd}
use Rattle.plan_check.specs.Forms.{Flow, group_fits}
use Rattle.plan_check.proofs.GroupSplit.{size_low}
use Rattle.plan_laws.proofs.Passes.{passes_of}
use Rattle.impulse_phase.specs.Reach.{extent}
use Rattle.impulse_phase.specs.Response.{full_cycle, AreLinear}
use Rattle.impulse_phase.proofs.Reach.{factor-le}
use Rattle.stage_law.specs.Facts.{StageFacts}
use Rattle.stage_law.specs.Kinds.{is_linear}
use Rattle.stage_law.specs.Least.{IsTimely}
use Rattle.stage_law.specs.Registers.{HeldSum, StageRegister, Telling, bits_of}
use Rattle.chain_build.specs.Added.{HasFacts}
use Rattle.chain_build.specs.Built.{kind_of, has_rounding, IsBuiltGroup, IsPlainGroup}
use Rattle.chain_build.specs.Linear.{each_index, output_register}
use Rattle.chain_build.specs.Soon.{ReadsFew}
use Rattle.chain_build.proofs.FormFacts.{fir-short}
use Rattle.chain_build.proofs.CostLimits.{left-of, head_costs, head_rate, reach-own, round_next}
use Rattle.chain_build.proofs.Measures.{measure_of}
use Rattle.chain_build.proofs.PeakLists.{needed_of}
use Rattle.chain_build.proofs.RegisterLemmas.{needed-member}
use Rattle.chain_build.proofs.Rounds.{round-within}
use Rattle.chain_build.proofs.SampleBounds.{whole-below, ceil_div-covers, same-stretch, read-behind}

-- ---- the sums of a linear group have few weights

linear-plain : (g : Group) → is_linear (kind_of g) ≡ true → IsPlainGroup g
linear-plain (Fir u f d) is = tt
linear-plain (DownCic a b c) is = tt
linear-plain (UpCic a b c) is = tt
linear-plain (Rounding k m) is = absurd (cc)
linear-plain (Clipping bits) is = absurd (cc)

-- as many as the values that the group remembers, and two more
linear-short : (g : Group) (flow : Flow) (facts : StageFacts) → IsBuiltGroup g → group_fits g flow ≡ true → HasFacts g flow facts → is_linear (kind_of g) ≡ true → 0 < up_factor g → facts.longest ≤ memory_of g / up_factor g + 2
linear-short (Fir u f d) flow facts built fits has is some =
    subst (λ (x : StageFacts). x.longest ≤ memory_of (Fir u f d) / up_factor (Fir u f d) + 2) (sym has) (fir-short u f d flow (wide flow.low flow.high) built fits some)
linear-short (DownCic a b c) flow facts built fits has is some = absurd (cc)
linear-short (UpCic a b c) flow facts built fits has is some = absurd (cc)
linear-short (Rounding k m) flow facts built fits has is some = absurd (cc)
linear-short (Clipping bits) flow facts built fits has is some = absurd (cc)

-- every index is a class with one round
one-turn : (classes step : ℕ) → 1 / gcd classes 1 * step ≡ step
one-turn classes step =
    let last : classes % 1 ≡ 0 = omega arith in
    let one : gcd classes 1 ≡ 1 = ap (λ (n : ℕ). gcd_to 1 1 n) last in
    ap (λ (n : ℕ). 1 / n * step) one ∙ omega arith

both_some : (a b : ℕ) → 0 < a → 0 < b → 0 < a * b
both_some zero b h k = absurd (omega arith)
both_some (suc a) b h k = omega arith

module _ (plan : Plan) (es : List Element) (front : List Group) (accepted : IsAccepted plan) (none : has_rounding front ≡ false) (linear : AreLinear es) (are : groups es ≡ front) where
  some_ticks : 0 < size plan.ticks
  some_ticks = let limits = (passes_of plan accepted).limits in size_low 65536 plan.ticks (limits.ticks_low, limits.ticks_high)

  -- the sums of the group that comes next
  pub reads-group : (g : Group) (left : List Group) → groups plan.elements ≡ front ++ g ∷ left → (flow : Flow) (facts : StageFacts) → IsBuiltGroup g → group_fits g flow ≡ true → HasFacts g flow facts → facts.up ≡ up_factor g → facts.down ≡ down_factor g → 0 < facts.down → is_linear (kind_of g) ≡ true → (period : ℕ) (s : HeldSum) → IsTimely facts period s
      → ReadsFew es s.form s.class
  reads-group g left parts flow facts built fits has up_is down_is some_down is own_period s timely =
      let h = left-of plan es front (g ∷ left) accepted parts none linear are in
      let plain = linear-plain g is in
      let short = timely.short in
      let raises = h.raising.0 in
      let period = h.t.stream.period in
      let most = ceil_div (memory_of g * period) (up_factor g * size plan.ticks) in
      let few : most ≤ 2 ^ 20 = reach-own (size plan.ticks) some_ticks g h.t h.s (measure_of (full_cycle es) (extent es)) raises h.stands (head_rate h) (head_costs h plain) in
      let steps = memory_of g / up_factor g in
      let covers : memory_of g * period ≤ most * (up_factor g * size plan.ticks) = ceil_div-covers (memory_of g * period) (up_factor g * size plan.ticks) (both_some (up_factor g) (size plan.ticks) raises some_ticks) in
      let whole : steps * up_factor g * period ≤ memory_of g * period = mul-le-mul_right period (whole-below (memory_of g) (up_factor g)) in
      let stretch : steps * period ≤ most * (1 * size plan.ticks) = factor-le (steps * period) (most * (1 * size plan.ticks)) (up_factor g) (omega (arith, covers, whole)) raises in
      let room : steps * (extent es).down ≤ most * ((extent es).up * 1) = same-stretch steps period (size plan.ticks) 1 (extent es).up (extent es).down most some_ticks h.stands.pace stretch in
      let longest = linear-short g flow facts built fits has is raises in
      let read = read-behind es linear steps most (length s.form) (omega (arith, room)) (omega (arith, short, longest)) in
      let near = h.stands.near in
      let own = h.stands.reach in
      let within = round-within (full_cycle es).classes facts.up facts.down s.class.modulus timely.shared timely.times some_down timely.greatest timely.divides in
      let behind_it : facts.down / gcd ((full_cycle es).classes * facts.up) facts.down ≡ down_factor g / gcd ((full_cycle es).classes * up_factor g) (down_factor g) =
      ap (λ (n : ℕ). facts.down / gcd ((full_cycle es).classes * n) facts.down) up_is ∙ ap (λ (n : ℕ). n / gcd ((full_cycle es).classes * up_factor g) n) down_is in
      let turn : s.class.modulus / gcd (full_cycle es).classes s.class.modulus * (full_cycle es).step ≤ facts.down / gcd ((full_cycle es).classes * facts.up) facts.down * (full_cycle es).step = mul-le-mul_right (full_cycle es).step within in
      let same : facts.down / gcd ((full_cycle es).classes * facts.up) facts.down * (full_cycle es).step ≡ down_factor g / gcd ((full_cycle es).classes * up_factor g) (down_factor g) * (full_cycle es).step = ap (λ (n : ℕ). n * (full_cycle es).step) behind_it in
      let next : down_factor g / gcd ((full_cycle es).classes * up_factor g) (down_factor g) * (full_cycle es).step ≤ 2 ^ 24 = round_next (size plan.ticks) some_ticks g h.t h.s (measure_of (full_cycle es) (extent es)) raises h.stands (head_rate h) (head_costs h plain) in
      record { round = h.stands.round; turn = omega (arith, turn, same, next); reach = omega (arith, own, near); behind = omega (arith, ints, read, few) }

  -- the chain's values themselves
  pub reads-value : groups plan.elements ≡ front → ReadsFew es (pos 1 ∷ []) each_index
  reads-value all =
      let h = left-of plan es front [] accepted (all ∙ sym (append-nil front)) none linear are in
      let read = read-behind es linear 0 0 1 (omega arith) (omega arith) in
      let near = h.stands.near in
      let own = h.stands.reach in
      let round = h.stands.round in
      let once : each_index.modulus / gcd (full_cycle es).classes each_index.modulus * (full_cycle es).step ≡ (full_cycle es).step = one-turn (full_cycle es).classes (full_cycle es).step in
      record { round = round; turn = omega (arith, once, round); reach = omega (arith, own, near); behind = omega (arith, ints, read) }

-- ---- the sum that needs a register's width

pub output-reads : (range : Telling) (es : List Element) (i : ℕ) (r : StageRegister) (s : HeldSum) → ReadsFew es (pos 1 ∷ []) each_index → slice_get (output_register ∷ []) i ≡ Some r → needed_of range r ≡ Some s → ReadsFew es s.form s.class
output-reads range es zero r s reads there needed =
    let same : output_register ≡ r = cc in
    let needs : needed_of range output_register ≡ Some s = ap (needed_of range) same ∙ needed in
    let m = needed-member range output_register.sums s (nat_eq (bits_of range output_register.sums) 1) needs in
    only m.place m.there
  where
    only : (j : ℕ) → slice_get output_register.sums j ≡ Some s → ReadsFew es s.form s.class
    only zero is = let own : record { form = pos 1 ∷ []; class = each_index; lag = 1 } ≡ s = cc in subst (λ (t : HeldSum). ReadsFew es t.form t.class) own reads
    only (suc j) is = absurd (cc)
output-reads range es (suc i) r s reads there needed = absurd (cc)
