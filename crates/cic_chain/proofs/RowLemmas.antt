-- Integrators in a row, and the registers of one comb.
use Rattle.std.proofs.Common.{◌≡◌, ℕ, zero, suc, ◌+◌, ◌-◌, ◌*◌, ◌<◌, ◌≤◌, ◌≢◌, ◌⊎◌, inl, inr, List, length, set, refl, sym, ◌∙◌, ap, arith, Option, subst, ℤ, pos, negsuc, ◌-ℤ◌, Bool, true, false}
use Rattle.std.proofs.Math.Path.{fun_ext}
use Rattle.std.proofs.lemmas.Bool.{cases_lt}
use Rattle.std.proofs.lemmas.Int.{ints}
use Rattle.std.proofs.lemmas.List.{get_or-set_same, get_or-set_other}
use Rattle.mr_values.specs.Sequence.{Sequence}
use Rattle.net_graph.specs.declared.cell.Cell.{Cell}
use Rattle.net_graph.specs.declared.cell.Node.{Node}
use Rattle.net_graph.specs.declared.cell.Stream.{Stream}
use Rattle.net_graph.specs.declared.cell.Item.TheVariants.{Sub}
use Rattle.net_graph.specs.declared.name.NameKind.TheVariants.{Register}
use Rattle.net_graph.specs.Cells.{NetView}
use Rattle.net_graph.specs.Cut.{Cut, IsCut}
use Rattle.net_graph.specs.Depth.{IsPlain, IsShallow}
use Rattle.net_graph.specs.Grow.{Adds, Extends, Grows}
use Rattle.net_graph.specs.Run.{Values, IsRun}
use Rattle.net_graph.proofs.CountLemmas.{adders_more}
use Rattle.net_graph.proofs.DepthLemmas.{IsPlain-later, IsShallow-adds}
use Rattle.net_graph.proofs.GroupLemmas.{nameless_data}
use Rattle.net_graph.proofs.GrowLemmas.{Grows-trans, Grows-data}
use Rattle.net_graph.proofs.NetLemmas.{cell_of_added}
use Rattle.pipeline_balance.specs.Gate.{IsGate, AddsGate, HasTaken}
use Rattle.pipeline_balance.specs.Numbered.{LeavesFree}
use Rattle.pipeline_balance.proofs.CostLemmas.{SameNamed-trans, SameNamed-adds}
use Rattle.pipeline_balance.proofs.NumberedLemmas.{free_adds, IsCounted-leaves}
use Rattle.pipeline_balance.proofs.ShapeLemmas.{KeepsShapes-trans, KeepsShapes-adds}
use Rattle.pipeline_balance.proofs.TakenLemmas.{IsGate-later}
use Rattle.cic_chain.specs.Cascade.{integrator, earlier, comb, integrators}
use Rattle.cic_chain.specs.Pieces.{IsPiece, AddsHeld, AddsIntegrator, AddsIntegrators, HoldsSums, HoldsEarlier, node_at, AddsRow, AddsComb, sampled, at_ticks, after_ticks}
use Rattle.stage_law.proofs.AlikeLemmas.{HasRegister-later}
use Rattle.cic_chain.proofs.PieceLemmas.{IsPiece-gate, IsPiece-then, IsPiece-counts}
use Rattle.cic_chain.proofs.SampleLemmas.{cut_zero, integrator-shift, integrators-causal, comb-causal, sampled-causal, steps_kept, held_before, summed_before}

-- ---- integrators

-- so many integrators so far
pub record IsRow (old new : NetView) (from : Stream) (gate : Option Node) (width count : ℕ) (last : Node) : Type 0 where
  pub piece : IsPiece old new from.node last width count count
  pub is_gate : IsGate new.cells from.period from.offset gate
  pub sums : (cut : Cut) → IsCut cut → (inputs : ℕ → ℤ) (values : Values) → IsRun cut new.cells inputs values → (n : ℤ) → sampled values (at_ticks from last) n ≡ integrators (cut false width) count (sampled values from) (n -ℤ pos count)
  pub kept : 1 ≤ count → (cut : Cut) → IsCut cut → (inputs : ℕ → ℤ) (values : Values) → IsRun cut new.cells inputs values
      → (t n : ℕ) → HasTaken from.period from.offset n t → values t last.place ≡ values (from.offset + n * from.period) last.place

itself : (values : Values) (from : Stream) (n : ℤ) → sampled values (at_ticks from from.node) n ≡ sampled values from n
itself values from (pos m) = refl
itself values from (negsuc m) = refl

pub IsRow-start : {old new : NetView} {gate : Option Node} (from : Stream) (width : ℕ) → 1 ≤ old.group → from.node.place < length old.cells → AddsGate old new from.period from.offset gate → IsRow old new from gate width 0 from.node
IsRow-start from width some inside g = record {
  piece = IsPiece-gate from.node width some inside g;
  is_gate = g.is_gate;
  sums = λ cut law inputs values run n. let at : n ≡ n -ℤ pos 0 = omega (arith, ints) in itself values from n ∙ ap (sampled values from) at;
  kept = λ h. absurd (omega arith);
}

pub IsRow-more : {old mid new : NetView} {gate : Option Node} {last to : Node} {count : ℕ} (from : Stream) (width : ℕ) → 1 ≤ from.period → 1 ≤ width → IsRow old mid from gate width count last → AddsIntegrator mid new (at_ticks from last) width to → IsRow old new from gate width (count + 1) to
IsRow-more {old} {mid} {new} {gate} {last} {to} {count} from width positive wide p a = record {
  piece = IsPiece-then p.piece a.piece;
  is_gate = IsGate-later mid.cells new.cells from.period from.offset gate a.piece.grows.extends p.is_gate;
  sums = λ cut law inputs values run n.
      let c = cut false width in
      let zero_kept = cut_zero cut law width wide in
      let y : Sequence = integrators c count (sampled values from) in
      let before : sampled values (at_ticks from last) ≡ (λ i. y (i -ℤ pos count)) = fun_ext (p.sums cut law inputs values (a.piece.grows.extends.runs cut law inputs values run)) in
      let at : (n -ℤ pos 1) -ℤ pos count ≡ n -ℤ pos (suc count) = omega (arith, ints) in
      let next : suc count ≡ count + 1 = omega arith in
      summed_before (at_ticks from last) positive width wide cut law inputs values run to a.steps n
      ∙ ap (λ (z : Sequence). integrator c z (n -ℤ pos 1)) before
      ∙ integrator-shift c zero_kept count y (integrators-causal c zero_kept count (sampled values from) (sampled-causal values from)) (n -ℤ pos 1)
      ∙ ap (integrator c y) at
      ∙ ap (λ (k : ℕ). integrators c k (sampled values from) (n -ℤ pos k)) next;
  kept = λ some cut law inputs values run t n h. steps_kept a.steps positive cut law inputs values run t n h;
}

pub AddsIntegrators-row : {old new : NetView} {gate : Option Node} {last : Node} (from : Stream) (width stages : ℕ) → 1 ≤ stages → IsRow old new from gate width stages last → AddsIntegrators old new from width stages last
AddsIntegrators-row from width stages some p = record {
  piece = p.piece;
  holds = record { sums = λ cut law inputs values run t n h. p.kept some cut law inputs values run t n h ∙ p.sums cut law inputs values run (pos n) };
}

-- ---- the registers of a row

-- the first registers of a row hold their sums, and the last of them is this node
pub record IsFilled (cells : List Cell) (from : Stream) (width count : ℕ) (last : Node) (registers : List Node) : Type 0 where
  pub each : (stage : ℕ) → stage < count → HoldsSums cells from width (suc stage) (node_at registers stage)
  pub end : 1 ≤ count → node_at registers (count - 1) ≡ last

pub IsFilled-none : (cells : List Cell) (from : Stream) (width : ℕ) (last : Node) (registers : List Node) → IsFilled cells from width 0 last registers
IsFilled-none cells from width last registers = record { each = λ stage less. absurd (omega arith); end = λ some. absurd (omega arith) }

HoldsSums-later : {old new : List Cell} {from : Stream} {width count : ℕ} {node : Node} → Extends old new → HoldsSums old from width count node → HoldsSums new from width count node
HoldsSums-later e h = record { sums = λ cut law inputs values run t taken is. h.sums cut law inputs values (e.runs cut law inputs values run) t taken is }

pub IsFilled-more : {cells : List Cell} {old new : NetView} {gate : Option Node} {from : Stream} {width count : ℕ} {last to : Node} {registers : List Node} → count < length registers → Extends cells new.cells
    → IsFilled cells from width count last registers → IsRow old new from gate width (count + 1) to → IsFilled new.cells from width (count + 1) to (set registers count to)
IsFilled-more {cells} {old} {new} {gate} {from} {width} {count} {last} {to} {registers} room e h row = record { each = λ stage less. at stage less (cases_lt stage count); end = λ some. back }
  where
    here : node_at (set registers count to) count ≡ to
    here = get_or-set_same registers count to (record { place = 0 }) room

    back : node_at (set registers count to) (count + 1 - 1) ≡ to
    back = let same : count + 1 - 1 ≡ count = omega arith in ap (λ (k : ℕ). node_at (set registers count to) k) same ∙ here

    at : (stage : ℕ) → stage < count + 1 → (stage < count) ⊎ (count ≤ stage) → HoldsSums new.cells from width (suc stage) (node_at (set registers count to) stage)
    at stage less (inl early) =
        let other : stage ≢ count = λ same. absurd (omega (arith, same, early)) in
        subst (HoldsSums new.cells from width (suc stage)) (sym (get_or-set_other registers count stage to (record { place = 0 }) other)) (HoldsSums-later e (h.each stage early))
    at stage less (inr last_one) =
        let same : count ≡ stage = omega arith in
        let next : count + 1 ≡ suc stage = omega arith in
        let holds : HoldsSums new.cells from width (count + 1) to = (AddsIntegrators-row from width (count + 1) (omega arith) row).holds in
        subst (λ (k : ℕ). HoldsSums new.cells from width (suc stage) (node_at (set registers count to) k)) same
        (subst (HoldsSums new.cells from width (suc stage)) (sym here) (subst (λ (k : ℕ). HoldsSums new.cells from width k to) next holds))

pub AddsRow-filled : {old new : NetView} {gate : Option Node} {last : Node} {registers : List Node} (from : Stream) (width stages : ℕ) → 1 ≤ stages → IsRow old new from gate width stages last
    → IsFilled new.cells from width stages last registers → AddsRow old new from width stages registers
AddsRow-filled {old} {new} from width stages some row h = record {
  last = subst (AddsIntegrators old new from width stages) (sym (h.end some)) (AddsIntegrators-row from width stages some row);
  each = h.each;
}

-- ---- one comb

-- so many registers of its delay so far
pub record IsDelayed (old new : NetView) (from : Stream) (gate : Option Node) (width count : ℕ) (last : Node) : Type 0 where
  pub piece : IsPiece old new from.node last width count 0
  pub is_gate : IsGate new.cells from.period from.offset gate
  pub before : (cut : Cut) → IsCut cut → (inputs : ℕ → ℤ) (values : Values) → IsRun cut new.cells inputs values → (n : ℤ) → sampled values (at_ticks from last) n ≡ earlier (cut false width) count (sampled values from) n
  pub kept : 1 ≤ count → (cut : Cut) → IsCut cut → (inputs : ℕ → ℤ) (values : Values) → IsRun cut new.cells inputs values
      → (t n : ℕ) → HasTaken from.period from.offset n t → values t last.place ≡ values (from.offset + n * from.period) last.place

pub IsDelayed-start : {old new : NetView} {gate : Option Node} (from : Stream) (width : ℕ) → 1 ≤ old.group → from.node.place < length old.cells → AddsGate old new from.period from.offset gate → IsDelayed old new from gate width 0 from.node
IsDelayed-start from width some inside g = record {
  piece = IsPiece-gate from.node width some inside g;
  is_gate = g.is_gate;
  before = λ cut law inputs values run n. itself values from n;
  kept = λ h. absurd (omega arith);
}

pub IsDelayed-more : {old mid new : NetView} {gate : Option Node} {last to : Node} {count : ℕ} (from : Stream) (width : ℕ) → 1 ≤ from.period → 1 ≤ width → IsDelayed old mid from gate width count last → AddsHeld mid new (at_ticks from last) width to → IsDelayed old new from gate width (count + 1) to
IsDelayed-more {old} {mid} {new} {gate} {last} {to} {count} from width positive wide p a = record {
  piece = IsPiece-then p.piece a.piece;
  is_gate = IsGate-later mid.cells new.cells from.period from.offset gate a.piece.grows.extends p.is_gate;
  before = λ cut law inputs values run n.
      let next : suc count ≡ count + 1 = omega arith in
      held_before (at_ticks from last) positive width wide cut law inputs values run to a.steps n
      ∙ ap (cut false width) (p.before cut law inputs values (a.piece.grows.extends.runs cut law inputs values run) (n -ℤ pos 1))
      ∙ ap (λ (k : ℕ). earlier (cut false width) k (sampled values from) n) next;
  kept = λ some cut law inputs values run t n h. steps_kept a.steps positive cut law inputs values run t n h;
}

-- the first registers of a delay hold their values
pub record AreDelays (cells : List Cell) (from : Stream) (width count : ℕ) (registers : List Node) : Type 0 where
  pub each : (age : ℕ) → age < count → HoldsEarlier cells from width (suc age) (node_at registers age)

pub AreDelays-none : (cells : List Cell) (from : Stream) (width : ℕ) (registers : List Node) → AreDelays cells from width 0 registers
AreDelays-none cells from width registers = record { each = λ age less. absurd (omega arith) }

HoldsEarlier-later : {old new : List Cell} {from : Stream} {width count : ℕ} {node : Node} → Extends old new → HoldsEarlier old from width count node → HoldsEarlier new from width count node
HoldsEarlier-later e h = record { earlier_value = λ cut law inputs values run t taken is. h.earlier_value cut law inputs values (e.runs cut law inputs values run) t taken is }

pub AreDelays-later : {old new : List Cell} {from : Stream} {width count : ℕ} {registers : List Node} → Extends old new → AreDelays old from width count registers → AreDelays new from width count registers
AreDelays-later e h = record { each = λ age less. HoldsEarlier-later e (h.each age less) }

pub AreDelays-more : {cells : List Cell} {old new : NetView} {gate : Option Node} {from : Stream} {width count : ℕ} {to : Node} {registers : List Node} → count < length registers → Extends cells new.cells
    → AreDelays cells from width count registers → IsDelayed old new from gate width (count + 1) to → AreDelays new.cells from width (count + 1) (set registers count to)
AreDelays-more {cells} {old} {new} {gate} {from} {width} {count} {to} {registers} room e h last = record { each = λ age less. at age less (cases_lt age count) }
  where
    here : node_at (set registers count to) count ≡ to
    here = get_or-set_same registers count to (record { place = 0 }) room

    at : (age : ℕ) → age < count + 1 → (age < count) ⊎ (count ≤ age) → HoldsEarlier new.cells from width (suc age) (node_at (set registers count to) age)
    at age less (inl early) =
        let other : age ≢ count = λ same. absurd (omega (arith, same, early)) in
        subst (HoldsEarlier new.cells from width (suc age)) (sym (get_or-set_other registers count age to (record { place = 0 }) other)) (HoldsEarlier-later e (h.each age early))
    at age less (inr last_one) =
        let same : count ≡ age = omega arith in
        let next : count + 1 ≡ suc age = omega arith in
        let holds : HoldsEarlier new.cells from width (count + 1) to = record { earlier_value = λ cut law inputs values run t n is. last.kept (omega arith) cut law inputs values run t n is ∙ last.before cut law inputs values run (pos n) } in
        subst (λ (k : ℕ). HoldsEarlier new.cells from width (suc age) (node_at (set registers count to) k)) same
        (subst (HoldsEarlier new.cells from width (suc age)) (sym here) (subst (λ (k : ℕ). HoldsEarlier new.cells from width k to) next holds))

-- the difference of the stream and of its delay
sub_piece : {old mid new : NetView} {from last difference : Node} {width registers : ℕ} → 1 ≤ old.group → from.place < length old.cells → IsPiece old mid from last width registers 0 → Adds mid new difference width (Sub from last) → IsPiece old new from from width registers 1
sub_piece {old} {mid} {new} {from} {last} {difference} {width} {registers} some inside p a =
    let some_mid : 1 ≤ mid.group = rw p.grows.group some in
    let g : Grows mid new = Grows-data some_mid a refl in
    let leaves : LeavesFree mid.cells new.cells (λ name. ⊥) = record { free = λ name other f. free_adds a name f } in
    let grows : Grows old new = Grows-trans p.grows g in
    record {
      grows = grows;
      within = let l = grows.extends.longer in omega arith;
      adds = adders_more old.group a refl p.grows.group ∙ ap (λ (n : ℕ). n + 1) (p.adds ∙ omega arith);
      named = SameNamed-trans p.named (SameNamed-adds a);
      names = record { free = λ name other f. free_adds a name (p.names.free name other f) };
      counted = λ count c. IsCounted-leaves old.group Register (count + registers) g.extends leaves (λ number h. h) (p.counted count c);
      wide = λ count c j h. HasRegister-later g.extends (p.wide count c j h);
      shallow = λ s plain.
          let same = p.grows.group in
          let s1 : IsShallow mid.cells mid.group = subst (λ (k : ℕ). IsShallow mid.cells k) (sym same) (p.shallow s plain) in
          let left : IsPlain mid.cells mid.group from.place = subst (λ (k : ℕ). IsPlain mid.cells k from.place) (sym same) (IsPlain-later old.cells mid.cells old.group s.bound p.grows.extends from.place plain) in
          let right : IsPlain mid.cells mid.group last.place = subst (λ (k : ℕ). IsPlain mid.cells k last.place) (sym same) (p.plain s plain) in
          subst (λ (k : ℕ). IsShallow new.cells k) same (IsShallow-adds a s1 (left, right));
      plain = λ s plain. IsPlain-later old.cells new.cells old.group s.bound grows.extends from.place plain;
      linear = KeepsShapes-trans p.linear (KeepsShapes-adds a tt);
    }

pub AddsComb-circuit : {old mid sub new : NetView} {gate : Option Node} {last difference to : Node} {delays : List Node} (from : Stream) (width delay : ℕ) → 1 ≤ from.period → 1 ≤ width → 1 ≤ old.group → from.node.place < length old.cells → IsDelayed old mid from gate width delay last
    → AreDelays mid.cells from width delay delays → Adds mid sub difference width (Sub from.node last) → AddsHeld sub new (at_ticks from difference) width to → AddsComb old new from width delay (record { delays = delays; difference = to })
AddsComb-circuit {old} {mid} {sub} {new} {gate} {last} {difference} {to} {delays} from width delay positive wide some inside p d s a =
    let some_mid : 1 ≤ mid.group = rw p.piece.grows.group some in
    let more : Grows mid sub = Grows-data {item = Sub from.node last} some_mid s refl in
    let first = sub_piece some inside p.piece s in
    let second : IsPiece sub new from.node to width 1 0 = record {
      grows = a.piece.grows;
      within = a.piece.within;
      adds = a.piece.adds;
      named = a.piece.named;
      names = a.piece.names;
      counted = a.piece.counted;
      wide = a.piece.wide;
      shallow = λ shallow plain. a.shallow shallow;
      plain = λ shallow plain. a.plain;
      linear = a.piece.linear;
    } in
    let whole : Grows mid new = Grows-trans more a.piece.grows in
    record {
      piece = IsPiece-counts refl (omega arith) (IsPiece-then first second);
      delays = (AreDelays-later whole.extends d).each;
      holds = hold;
      differs = at;
    }
  where
    hold : (cut : Cut) → IsCut cut → (inputs : ℕ → ℤ) (values : Values) → IsRun cut new.cells inputs values → (t taken : ℕ) → HasTaken from.period from.offset taken t → values t to.place ≡ comb (cut false width) delay (sampled values from) (pos taken -ℤ pos 1)
    hold cut law inputs values run t zero taken =
        let before : pos 0 -ℤ pos 1 ≡ negsuc 0 = omega (arith, ints) in
        a.steps.holds cut law inputs values run t 0 taken ∙ sym (ap (comb (cut false width) delay (sampled values from)) before ∙ comb-causal (cut false width) (cut_zero cut law width wide) delay (sampled values from) (sampled-causal values from) 0)
    hold cut law inputs values run t (suc m) taken =
        let c = cut false width in
        let x : Sequence = sampled values from in
        let u : ℕ = from.offset + m * from.period in
        let sub_run = a.piece.grows.extends.runs cut law inputs values run in
        let some_mid : 1 ≤ mid.group = rw p.piece.grows.group some in
        let difference_is : values u difference.place ≡ c (values u from.node.place -ℤ values u last.place) =
        sub_run.each difference.place _ (cell_of_added s) u ∙ ap (λ (b : Bool). cut b width (values u from.node.place -ℤ values u last.place)) (nameless_data mid.group true some_mid) in
        let mid_run = (Grows-data {item = Sub from.node last} some_mid s refl).extends.runs cut law inputs values sub_run in
        let at_m : pos (suc m) -ℤ pos 1 ≡ pos m = omega (arith, ints) in
        a.steps.holds cut law inputs values run t (suc m) taken
        ∙ ap c difference_is ∙ law.again false width _ wide
        ∙ ap (λ (z : ℤ). c (x (pos m) -ℤ z)) (p.before cut law inputs values mid_run (pos m)) ∙ ap (comb c delay x) (sym at_m)

    at : (cut : Cut) → IsCut cut → (inputs : ℕ → ℤ) (values : Values) → IsRun cut new.cells inputs values → (n : ℤ) → sampled values (after_ticks from 1 to) n ≡ comb (cut false width) delay (sampled values from) n
    at cut law inputs values run (pos m) =
        let taken : HasTaken from.period from.offset (suc m) (from.offset + 1 + m * from.period) = (omega arith, omega arith) in
        let at_m : pos (suc m) -ℤ pos 1 ≡ pos m = omega (arith, ints) in
        hold cut law inputs values run (from.offset + 1 + m * from.period) (suc m) taken ∙ ap (comb (cut false width) delay (sampled values from)) at_m
    at cut law inputs values run (negsuc m) = sym (comb-causal (cut false width) (cut_zero cut law width wide) delay (sampled values from) (sampled-causal values from) m)
