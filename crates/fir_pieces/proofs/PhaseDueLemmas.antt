-- What the law of a stage asks of a register that holds forms.
use Rattle.std.proofs.Common.{◌≡◌, ℕ, zero, suc, ◌+◌, ◌-◌, ◌*◌, ◌<◌, ◌≤◌, List, [], ◌∷◌, length, max, refl, sym, ◌∙◌, ap, arith, inl, inr, subst, Some, slice_get}
use Rattle.std.proofs.lemmas.Bool.{cases_lt}
use Rattle.net_graph.specs.declared.cell.Cell.{Cell}
use Rattle.net_graph.specs.declared.cell.Node.{Node}
use Rattle.net_graph.specs.declared.cell.Stream.{Stream}
use Rattle.net_graph.specs.declared.name.Name.{Name}
use Rattle.net_graph.specs.declared.name.NameKind.{NameKind}
use Rattle.net_graph.specs.Cut.{cut_all, cut_control}
use Rattle.std.specs.Int.{IsGcd}
use Rattle.net_graph.specs.Grow.{Extends}
use Rattle.net_graph.proofs.CutLemmas.{IsCut-all, IsCut-control}
use Rattle.pipeline_balance.specs.Numbered.{name_of}
use Rattle.pipeline_balance.proofs.NumberedLemmas.{IsRegister-later}
use Rattle.stage_law.specs.Facts.{StageFacts}
use Rattle.stage_law.specs.Least.{IsKeptWhole, HoldsSum, HasStageRegister, IsTimely}
use Rattle.stage_law.specs.Registers.{HeldSum}
use Rattle.stage_law.specs.Streams.{Streams, magnitudes}
use Rattle.fir_pieces.specs.Moment.{Moment, Pace, IsPace, Forms, sum_at, HoldsForms}
use Rattle.fir_pieces.specs.PhaseSums.{sum_in_phase, sums_in_phases, ListsPhases, last_first, IsPhasesDue}
use Rattle.fir_pieces.proofs.GiveLemmas.{GivesForms-later}
use Rattle.fir_pieces.proofs.PhaseWidthLemmas.{sums_bits}

-- ---- orders of phases

pub last_first-order : (phases : ℕ) → ListsPhases phases (last_first phases)
last_first-order phases = record { below = below phases; all = all phases }
  where
    below : (n j φ : ℕ) → slice_get (last_first n) j ≡ Some φ → φ < n
    below zero j φ e = absurd (cc)
    below (suc n) zero φ e = let same : n ≡ φ = cc in omega (arith, same)
    below (suc n) (suc j) φ e = let rest = below n j φ e in omega (arith, rest)

    all : (n φ : ℕ) → φ < n → (j : ℕ) × (slice_get (last_first n) j ≡ Some φ)
    all zero φ h = absurd (omega arith)
    all (suc n) φ h = elim (cases_lt φ n) [
      | inl less ↦ let rest = all n φ less in (suc rest.0, rest.1)
      | inr ge ↦ let same : n ≡ φ = omega arith in (0, ap (λ (k : ℕ). Some k) same)
    ]

-- a sum of the list is that of one phase
pub phase_there : (pace : Pace) (forms : Forms) (ticks : ℕ) (order : List ℕ) (j : ℕ) (s : HeldSum) → slice_get (sums_in_phases pace forms ticks order) j ≡ Some s → (φ : ℕ) × (slice_get order j ≡ Some φ) × (s ≡ sum_in_phase pace forms ticks φ)
phase_there pace forms ticks [] j s e = absurd (cc)
phase_there pace forms ticks (φ ∷ order) zero s e = let same : s ≡ sum_in_phase pace forms ticks φ = cc in (φ, refl, same)
phase_there pace forms ticks (φ ∷ order) (suc j) s e = phase_there pace forms ticks order j s e

-- ---- the law

-- each phase's sum is held at its ticks
pub holds_phase : {cells : List Cell} {from : Stream} {pace : Pace} {forms : Forms} {ticks : ℕ} {node : Node} (streams : Streams) → IsPace from pace → HoldsForms streams cells from pace forms ticks node
    → (φ : ℕ) → φ < pace.phases → HoldsSum streams cells from node (sum_in_phase pace forms ticks φ)
holds_phase {cells} {from} {pace} {forms} {ticks} {node} streams is_pace h φ below = record {
  at = λ cut law x values v is run carried k in_class.
      let tick : from.offset + k * from.period + (pace.lag φ + ticks) ≡ from.offset + k * from.period + pace.lag φ + ticks = omega arith in
      ap (λ (n : ℕ). values n node.place) tick ∙ h.late cut law x values v is run carried (from.offset + k * from.period + pace.lag φ)
      ∙ ap (λ (m : Moment). sum_at forms m v) (is_pace.due φ k below in_class);
}

-- the run and the uncut run agree at every tick
pub forms_whole : {cells : List Cell} {from : Stream} {pace : Pace} {forms : Forms} {ticks : ℕ} {node : Node} (streams : Streams) → HoldsForms streams cells from pace forms ticks node → IsKeptWhole streams cells from node
forms_whole {cells} {from} {pace} {forms} {ticks} {node} streams h = record {
  same = λ x values whole v is run uncut carried carried' t. elim (cases_lt t ticks) [
    | inl soon ↦ h.early cut_all IsCut-all x values v is run carried t soon ∙ sym (h.early cut_control IsCut-control x whole v is uncut carried' t soon)
    | inr later ↦
        let s = t - ticks in
        let tick : s + ticks ≡ t = omega arith in
        ap (λ (n : ℕ). values n node.place) (sym tick) ∙ h.late cut_all IsCut-all x values v is run carried s
        ∙ sym (h.late cut_control IsCut-control x whole v is uncut carried' s) ∙ ap (λ (n : ℕ). whole n node.place) tick
  ];
}

pub IsPhasesDue-later : {old new : List Cell} {from : Stream} {pace : Pace} {depth levels group : ℕ} {name : Name} {sums : List HeldSum} {node : Node} (streams : Streams) → Extends old new → IsPhasesDue streams old from pace depth levels group name sums node → IsPhasesDue streams new from pace depth levels group name sums node
IsPhasesDue-later streams e d = record {
  width = d.width;
  register = IsRegister-later e d.register;
  forms = d.forms;
  ticks = d.ticks;
  order = d.order;
  are_sums = d.are_sums;
  short = d.short;
  soon = d.soon;
  holds = GivesForms-later streams e d.holds;
  least = d.least;
}

-- the register of the list
pub stage_register : {cells : List Cell} {from : Stream} {pace : Pace} {depth levels group : ℕ} {sums : List HeldSum} {node : Node} (streams : Streams) (kind : NameKind) (number : ℕ) → IsPace from pace → IsPhasesDue streams cells from pace depth levels group (name_of group kind number) sums node
    → HasStageRegister streams cells group from (record { kind = kind; number = number; sums = sums })
stage_register {cells} {from} {pace} {depth} {levels} {group} {sums} {node} streams kind number is_pace d =
    subst (λ (ss : List HeldSum). HasStageRegister streams cells group from (record { kind = kind; number = number; sums = ss })) (sym d.are_sums)
    (record {
      node = node;
      width = d.width;
      register = d.register;
      least = λ range tells.
          sums_bits streams (sums_in_phases pace d.forms d.ticks d.order) d.width d.least.wide
          (λ j s e.
          let p = phase_there pace d.forms d.ticks d.order j s e in
          subst (λ (z : HeldSum). z.class.residue < z.class.modulus) (sym p.2) (is_pace.proper p.0 (d.least.in_order.below j p.0 p.1)))
          range tells;
      holds = λ j s e.
          let p = phase_there pace d.forms d.ticks d.order j s e in
          subst (HoldsSum streams cells from node) (sym p.2) (holds_phase streams is_pace d.holds p.0 (d.least.in_order.below j p.0 p.1));
      kept_whole = forms_whole streams d.holds;
    })

-- there is a sum, where there is a phase
pub some_sum : {cells : List Cell} {from : Stream} {pace : Pace} {depth levels group : ℕ} {name : Name} {sums : List HeldSum} {node : Node} (streams : Streams) → IsPace from pace → IsPhasesDue streams cells from pace depth levels group name sums node → 1 ≤ length sums
some_sum {cells} {from} {pace} {depth} {levels} {group} {name} {sums} {node} streams is_pace d =
    let first = d.least.in_order.all (pace.at 0).phase (is_pace.below 0) in
    subst (λ (ss : List HeldSum). 1 ≤ length ss) (sym d.are_sums) (some d.order first.0 first.1)
  where
    some : {φ : ℕ} (order : List ℕ) (j : ℕ) → slice_get order j ≡ Some φ → 1 ≤ length (sums_in_phases pace d.forms d.ticks order)
    some [] j e = absurd (cc)
    some (x ∷ order) j e = omega arith

-- each sum comes in time
pub timely : {cells : List Cell} {from : Stream} {pace : Pace} {depth levels group : ℕ} {name : Name} {sums : List HeldSum} {node : Node} (streams : Streams) (facts : StageFacts) → IsPace from pace → IsPhasesDue streams cells from pace depth levels group name sums node
    → ((φ : ℕ) → φ < pace.phases → pace.lag φ + levels ≤ from.period + facts.delay from.period) → depth ≤ facts.longest → (shared : ℕ) → IsGcd facts.up facts.down shared → ((φ : ℕ) → φ < pace.phases → (times : ℕ) × (facts.down ≡ shared * (times * (pace.class φ).modulus)))
    → (j : ℕ) (s : HeldSum) → slice_get sums j ≡ Some s → magnitudes s.form ≤ max 1 (2 * facts.gain) → IsTimely facts from.period s
timely {cells} {from} {pace} {depth} {levels} {group} {name} {sums} {node} streams facts is_pace d soon few shared greatest divides j s e small =
    let p = phase_there pace d.forms d.ticks d.order j s (subst (λ (ss : List HeldSum). slice_get ss j ≡ Some s) d.are_sums e) in
    let φ = p.0 in
    let below : φ < pace.phases = d.least.in_order.below j φ p.1 in
    let form : s.form ≡ d.forms φ = ap (λ (z : HeldSum). z.form) p.2 in
    let lag : s.lag ≡ pace.lag φ + d.ticks = ap (λ (z : HeldSum). z.lag) p.2 in
    let class = ap (λ (z : HeldSum). z.class) p.2 in
    let length_is : length s.form ≡ length (d.forms φ) = ap length form in
    let early = d.soon in
    let due = soon φ below in
    let short = d.short φ below in
    let times = divides φ below in
    record {
      class = subst (λ c. c.residue < c.modulus) (sym class) (is_pace.proper φ below);
      soon = omega (arith, lag, early, due);
      short = omega (arith, length_is, short, few);
      small = small;
      shared = shared;
      greatest = greatest;
      times = times.0;
      divides = subst (λ c. facts.down ≡ shared * (times.0 * c.modulus)) (sym class) times.1;
    }
