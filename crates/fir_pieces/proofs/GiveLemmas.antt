-- Sums, multiples, wires and registers of what gives forms.
use Rattle.std.proofs.Common.{◌≡◌, ℕ, zero, suc, ◌+◌, ◌-◌, ◌<◌, List, [], ◌∷◌, map, refl, sym, ◌∙◌, ap, arith, inl, inr, subst, ℤ, pos, negsuc, ◌+ℤ◌, ◌-ℤ◌, ◌*ℤ◌, ◌<ℤ◌, Some, slice_get}
use Rattle.std.proofs.lemmas.Bool.{cases_lt}
use Rattle.std.proofs.lemmas.Int.{ints}
use Rattle.mr_values.specs.Sequence.{Sequence, weighted_sum}
use Rattle.mr_values.specs.Width.{FitsWidth}
use Rattle.mr_values.proofs.Polyphase.{weighted_sum-same}
use Rattle.mr_values.proofs.WidthLemmas.{FitsWidth-zero}
use Rattle.net_graph.specs.declared.cell.Cell.{Cell}
use Rattle.net_graph.specs.declared.cell.Node.{Node}
use Rattle.net_graph.specs.declared.cell.Stream.{Stream}
use Rattle.net_graph.specs.Cut.{Cut, IsCut}
use Rattle.net_graph.specs.Grow.{Extends}
use Rattle.net_graph.specs.Run.{Values, IsRun}
use Rattle.pipeline_balance.specs.Gate.{Carries}
use Rattle.pipeline_balance.specs.Leaves.{delayed}
use Rattle.stage_law.specs.Registers.{HeldSum}
use Rattle.stage_law.specs.Streams.{Streams, AreCausal}
use Rattle.fir_pieces.specs.Moment.{Moment, Pace, IsPace, Stands, Forms, sum_at, GivesForms, HoldsForms}
use Rattle.fir_pieces.specs.FormSums.{plus_forms, times_forms}
use Rattle.fir_pieces.specs.PhaseSums.{sum_in_phase, FitsSum, IsFormsWidth}
use Rattle.fir_pieces.proofs.FormSumLemmas.{weighted_sum-plus, weighted_sum-times}
use Rattle.fir_pieces.proofs.HeldLemmas.{weighted_sum-nothing, delayed_later, delayed_early}

-- ---- what stays

pub GivesForms-later : {old new : List Cell} {from : Stream} {pace : Pace} {forms : Forms} {ticks : ℕ} {value : Values → ℕ → ℤ} (streams : Streams) → Extends old new → GivesForms streams old from pace forms ticks value → GivesForms streams new from pace forms ticks value
GivesForms-later streams e h = record {
  early = λ cut law x values v is run. h.early cut law x values v is (e.runs cut law x values run);
  late = λ cut law x values v is run. h.late cut law x values v is (e.runs cut law x values run);
}

-- other forms with the same sums
pub GivesForms-same : {cells : List Cell} {from : Stream} {pace : Pace} {ticks : ℕ} {value : Values → ℕ → ℤ} (streams : Streams) (f g : Forms) → ((φ : ℕ) (x : ℕ → ℤ) → weighted_sum (f φ) x ≡ weighted_sum (g φ) x)
    → GivesForms streams cells from pace f ticks value → GivesForms streams cells from pace g ticks value
GivesForms-same {cells} {from} {pace} {ticks} {value} streams f g e h = record {
  early = h.early;
  late = λ cut law x values v is run carried s. h.late cut law x values v is run carried s ∙ e (pace.at s).phase (λ i. v ((pace.at s).newest -ℤ pos i));
}

-- ---- at once

zero_plus : (a b : ℤ) → a ≡ pos 0 → b ≡ pos 0 → a +ℤ b ≡ pos 0
zero_plus a b p q = omega (arith, ints, p, q)

times_zero : (c z : ℤ) → z ≡ pos 0 → c *ℤ z ≡ pos 0
times_zero c z e = ap (λ (y : ℤ). c *ℤ y) e ∙ nothing c
  where
    nothing : (z : ℤ) → z *ℤ pos 0 ≡ pos 0
    nothing z = omega (arith, ints)

-- the sum of two gives the sum of their forms
pub GivesForms-plus : {cells : List Cell} {from : Stream} {pace : Pace} {ticks : ℕ} (streams : Streams) (f g : Forms) (a b : Values → ℕ → ℤ) → GivesForms streams cells from pace f ticks a → GivesForms streams cells from pace g ticks b
    → GivesForms streams cells from pace (plus_forms f g) ticks (λ values t. a values t +ℤ b values t)
GivesForms-plus {cells} {from} {pace} {ticks} streams f g a b p q = record {
  early = λ cut law x values v is run carried t h. zero_plus (a values t) (b values t) (p.early cut law x values v is run carried t h) (q.early cut law x values v is run carried t h);
  late = λ cut law x values v is run carried s.
      let m = pace.at s in
      ap (λ (z : ℤ). z +ℤ b values (s + ticks)) (p.late cut law x values v is run carried s) ∙ ap (λ (z : ℤ). sum_at f m v +ℤ z) (q.late cut law x values v is run carried s)
      ∙ sym (weighted_sum-plus (f m.phase) (g m.phase) (λ i. v (m.newest -ℤ pos i)));
}

-- a multiple gives the multiple of the forms
pub GivesForms-times : {cells : List Cell} {from : Stream} {pace : Pace} {ticks : ℕ} (streams : Streams) (c : ℤ) (f : Forms) (a : Values → ℕ → ℤ) → GivesForms streams cells from pace f ticks a
    → GivesForms streams cells from pace (times_forms c f) ticks (λ values t. c *ℤ a values t)
GivesForms-times {cells} {from} {pace} {ticks} streams c f a p = record {
  early = λ cut law x values v is run carried t h. times_zero c (a values t) (p.early cut law x values v is run carried t h);
  late = λ cut law x values v is run carried s.
      let m = pace.at s in
      ap (λ (z : ℤ). c *ℤ z) (p.late cut law x values v is run carried s) ∙ sym (weighted_sum-times c (f m.phase) (λ i. v (m.newest -ℤ pos i)));
}

-- nothing gives nothing
pub GivesForms-none : {cells : List Cell} {from : Stream} {pace : Pace} {ticks : ℕ} (streams : Streams) → GivesForms streams cells from pace (λ φ. []) ticks (λ values t. pos 0)
GivesForms-none streams = record { early = λ cut law x values v is run carried t h. refl; late = λ cut law x values v is run carried s. refl }

-- the same value, otherwise written
pub GivesForms-as : {cells : List Cell} {from : Stream} {pace : Pace} {forms : Forms} {ticks : ℕ} (streams : Streams) (a b : Values → ℕ → ℤ) → ((values : Values) (t : ℕ) → b values t ≡ a values t)
    → GivesForms streams cells from pace forms ticks a → GivesForms streams cells from pace forms ticks b
GivesForms-as streams a b e p = record {
  early = λ cut law x values v is run carried t h. e values t ∙ p.early cut law x values v is run carried t h;
  late = λ cut law x values v is run carried s. e values _ ∙ p.late cut law x values v is run carried s;
}

-- ---- the sums fit

-- before the first value there is nothing
pub nothing_before : (form : List ℤ) (v : Sequence) (newest : ℤ) → ((n : ℕ) → v (negsuc n) ≡ pos 0) → newest <ℤ pos 0 → weighted_sum form (λ i. v (newest -ℤ pos i)) ≡ pos 0
nothing_before form v (pos n) none h = absurd (omega (arith, ints))
nothing_before form v (negsuc n) none h =
    let at : (i : ℕ) → v (negsuc n -ℤ pos i) ≡ pos 0 = λ i. let e : negsuc n -ℤ pos i ≡ negsuc (n + i) = omega (arith, ints) in ap v e ∙ none (n + i) in
    weighted_sum-same form (λ i. v (negsuc n -ℤ pos i)) (λ i. pos 0) at ∙ weighted_sum-nothing form

slice_get-map : (f : ℕ → HeldSum) (xs : List ℕ) (j x : ℕ) → slice_get xs j ≡ Some x → slice_get (map f xs) j ≡ Some (f x)
slice_get-map f [] j x e = absurd (cc)
slice_get-map f (y ∷ ys) zero x e = let same : y ≡ x = cc in rw same refl
slice_get-map f (y ∷ ys) (suc j) x e = slice_get-map f ys j x e

-- a phase's sum fits
phase_fits : (streams : Streams) (pace : Pace) (forms : Forms) (ticks : ℕ) (order : List ℕ) (width : ℕ) → IsFormsWidth streams pace forms ticks order width → (φ : ℕ) → φ < pace.phases → FitsSum streams width (sum_in_phase pace forms ticks φ)
phase_fits streams pace forms ticks order width w φ h =
    let there = w.in_order.all φ h in
    w.wide.holds there.0 (sum_in_phase pace forms ticks φ) (slice_get-map (sum_in_phase pace forms ticks) order there.0 φ there.1)

-- at each moment the sum fits the least width for all phases
pub sum_fits : (streams : Streams) → AreCausal streams → (from : Stream) (pace : Pace) → IsPace from pace → (forms : Forms) (ticks : ℕ) (order : List ℕ) (width : ℕ) → IsFormsWidth streams pace forms ticks order width
    → (v : Sequence) → streams v → (s : ℕ) → FitsWidth width (sum_at forms (pace.at s) v)
sum_fits streams causal from pace is_pace forms ticks order width w v is s = by_moment (pace.at s) (is_pace.below s) (is_pace.stands s)
  where
    by_moment : (m : Moment) → m.phase < pace.phases → Stands pace.class m → FitsWidth width (sum_at forms m v)
    by_moment m h (inl before) = subst (FitsWidth width) (sym (nothing_before (forms m.phase) v m.newest (λ n. causal.each v is n) before)) (FitsWidth-zero width)
    by_moment m h (inr at) =
        subst (λ (z : ℤ). FitsWidth width (weighted_sum (forms m.phase) (λ i. v (z -ℤ pos i)))) (sym at.1)
        ((phase_fits streams pace forms ticks order width w m.phase h).each v is at.0 at.2)

-- what gives forms fits at every tick
pub value_fits : {cells : List Cell} {from : Stream} {pace : Pace} {forms : Forms} {ticks : ℕ} {value : Values → ℕ → ℤ} (streams : Streams) → AreCausal streams → IsPace from pace → GivesForms streams cells from pace forms ticks value
    → (lag : ℕ) (order : List ℕ) (width : ℕ) → IsFormsWidth streams pace forms lag order width
    → (cut : Cut) → IsCut cut → (x : ℕ → ℤ) (values : Values) (v : Sequence) → streams v → IsRun cut cells x values → Carries values from v → (t : ℕ) → FitsWidth width (value values t)
value_fits {cells} {from} {pace} {forms} {ticks} {value} streams causal is_pace g lag order width w cut law x values v is run carried t = elim (cases_lt t ticks) [
  | inl soon ↦ subst (FitsWidth width) (sym (g.early cut law x values v is run carried t soon)) (FitsWidth-zero width)
  | inr later ↦
      let s = t - ticks in
      let tick : s + ticks ≡ t = omega arith in
      subst (λ (n : ℕ). FitsWidth width (value values n)) tick
      (subst (FitsWidth width) (sym (g.late cut law x values v is run carried s)) (sum_fits streams causal from pace is_pace forms lag order width w v is s))
]

-- ---- nodes

-- a node with the least width that takes a value at once, wherever it fits
pub HoldsForms-wire : {cells : List Cell} {from : Stream} {pace : Pace} {forms : Forms} {ticks : ℕ} {value : Values → ℕ → ℤ} (streams : Streams) → AreCausal streams → IsPace from pace → GivesForms streams cells from pace forms ticks value
    → (lag : ℕ) (order : List ℕ) (width : ℕ) → IsFormsWidth streams pace forms lag order width → (node : Node)
    → ((cut : Cut) → IsCut cut → (x : ℕ → ℤ) (values : Values) → IsRun cut cells x values → (t : ℕ) → FitsWidth width (value values t) → values t node.place ≡ value values t)
    → HoldsForms streams cells from pace forms ticks node
HoldsForms-wire {cells} {from} {pace} {forms} {ticks} {value} streams causal is_pace g lag order width w node takes = record {
  early = λ cut law x values v is run carried t h. takes cut law x values run t (value_fits streams causal is_pace g lag order width w cut law x values v is run carried t) ∙ g.early cut law x values v is run carried t h;
  late = λ cut law x values v is run carried s. takes cut law x values run (s + ticks) (value_fits streams causal is_pace g lag order width w cut law x values v is run carried (s + ticks)) ∙ g.late cut law x values v is run carried s;
}

-- a register with the least width that begins with 0 and takes a value one tick later, wherever it fits
pub HoldsForms-register : {cells : List Cell} {from : Stream} {pace : Pace} {forms : Forms} {ticks : ℕ} {value : Values → ℕ → ℤ} (streams : Streams) → AreCausal streams → IsPace from pace → GivesForms streams cells from pace forms ticks value
    → (lag : ℕ) (order : List ℕ) (width : ℕ) → IsFormsWidth streams pace forms lag order width → (node : Node)
    → ((cut : Cut) → IsCut cut → (x : ℕ → ℤ) (values : Values) → IsRun cut cells x values → values 0 node.place ≡ pos 0)
    → ((cut : Cut) → IsCut cut → (x : ℕ → ℤ) (values : Values) → IsRun cut cells x values → (t : ℕ) → FitsWidth width (value values t) → values (suc t) node.place ≡ value values t)
    → HoldsForms streams cells from pace forms (suc ticks) node
HoldsForms-register {cells} {from} {pace} {forms} {ticks} {value} streams causal is_pace g lag order width w node starts takes = record {
  early = λ cut law x values v is run carried t h. before cut law x values v is run carried t h;
  late = λ cut law x values v is run carried s.
      let tick : s + suc ticks ≡ suc (s + ticks) = omega arith in
      ap (λ (n : ℕ). values n node.place) tick
      ∙ takes cut law x values run (s + ticks) (value_fits streams causal is_pace g lag order width w cut law x values v is run carried (s + ticks)) ∙ g.late cut law x values v is run carried s;
}
  where
    before : (cut : Cut) → IsCut cut → (x : ℕ → ℤ) (values : Values) (v : Sequence) → streams v → IsRun cut cells x values → Carries values from v → (t : ℕ) → t < suc ticks → values t node.place ≡ pos 0
    before cut law x values v is run carried zero h = starts cut law x values run
    before cut law x values v is run carried (suc t) h =
        takes cut law x values run t (value_fits streams causal is_pace g lag order width w cut law x values v is run carried t) ∙ g.early cut law x values v is run carried t (omega arith)

-- so many ticks later
pub GivesForms-delayed : {cells : List Cell} {from : Stream} {pace : Pace} {forms : Forms} {ticks : ℕ} (streams : Streams) (more : ℕ) (value : Values → ℕ → ℤ) → GivesForms streams cells from pace forms ticks value
    → GivesForms streams cells from pace forms (ticks + more) (λ values t. delayed more t (value values))
GivesForms-delayed {cells} {from} {pace} {forms} {ticks} streams more value g = record {
  early = λ cut law x values v is run carried t h. delayed_early more ticks t (value values) (λ s soon. g.early cut law x values v is run carried s soon) h;
  late = λ cut law x values v is run carried s.
      let tick : s + (ticks + more) ≡ s + ticks + more = omega arith in
      ap (λ (n : ℕ). delayed more n (value values)) tick ∙ delayed_later more (s + ticks) (value values) ∙ g.late cut law x values v is run carried s;
}
