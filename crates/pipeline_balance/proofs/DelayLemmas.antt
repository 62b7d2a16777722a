-- A delay, register by register.
use Rattle.std.proofs.Common.{◌≡◌, ℕ, zero, suc, ◌+◌, ◌*◌, ◌<◌, length, refl, ◌∙◌, ap, arith, inl, subst, ℤ, sym}
use Rattle.net_graph.specs.declared.cell.Cell.{Cell}
use Rattle.net_graph.specs.declared.cell.Node.{Node}
use Rattle.net_graph.specs.declared.name.Name.{Name}
use Rattle.net_graph.specs.declared.name.NameKind.TheVariants.{Register}
use Rattle.net_graph.specs.Cells.{NetView}
use Rattle.net_graph.specs.WellFormed.{IsFree, IsLeastFree}
use Rattle.net_graph.specs.Cut.{Cut, IsCut}
use Rattle.net_graph.specs.Run.{Values, IsRun}
use Rattle.net_graph.proofs.CellLemmas.{cell_at-is}
use Rattle.net_graph.proofs.GrowLemmas.{Grows-refl, Grows-trans}
use Rattle.pipeline_balance.specs.Numbered.{IsCounted, IsTouched, LeavesFree, name_of}
use Rattle.pipeline_balance.specs.Gate.{HasTaken, IsTaken}
use Rattle.pipeline_balance.specs.Leaves.{delayed}
use Rattle.pipeline_balance.specs.Phase.{IsDelay}
use Rattle.pipeline_balance.proofs.CostLemmas.{SameAdders-refl, SameAdders-trans, SameNamed-refl, SameNamed-trans}
use Rattle.pipeline_balance.proofs.ShapeLemmas.{KeepsShapes-refl, KeepsShapes-trans}
use Rattle.pipeline_balance.proofs.WindowLemmas.{SameNamed-taken}
use Rattle.pipeline_balance.proofs.NumberedLemmas.{LeavesFree-refl, LeavesFree-trans, IsCounted-more, least_is}

-- every tick of a stream of period 1 takes one value
pub every_tick : (t : ℕ) → HasTaken 1 0 t t
every_tick zero = omega arith
every_tick (suc t) = (omega arith, omega arith)

pub IsDelay-none : (net : NetView) (from : Node) → from.place < length net.cells → IsDelay net net from 0 from
IsDelay-none net from h = record {
  grows = Grows-refl net;
  within = h;
  wide = refl;
  delays = λ cut law x v r t. refl;
  counted = λ count c. let same : count ≡ count + 0 = omega arith in subst (λ (n : ℕ). IsCounted net.cells net.group Register n) same c;
  names = LeavesFree-refl net.cells (IsTouched net.group Register);
  adders = SameAdders-refl net.cells;
  named = SameNamed-refl net.cells;
  linear = KeepsShapes-refl net.cells;
}

pub IsDelay-more : {a b c : NetView} {from last to : Node} {ticks group number : ℕ} → group ≡ a.group → IsDelay a b from ticks last → IsLeastFree b.cells group Register number → IsTaken b c (record { node = last; period = 1; offset = 0 }) (name_of group Register number) to → IsDelay a c from (suc ticks) to
IsDelay-more {a} {b} {c} {from} {last} {to} {ticks} {group} {number} same p least t = record {
  grows = Grows-trans p.grows (t.grows (same ∙ sym p.grows.group));
  within = t.holds.within;
  wide = ap (λ (cell : Cell). cell.width) (cell_at-is c.cells to.place t.register.cell t.register.there) ∙ t.register.wide ∙ p.wide;
  delays = λ cut law x v r s. step cut law x v r s;
  counted = λ count n.
      let number_is : number ≡ count + ticks = least_is b.cells a.group Register (count + ticks) number (p.counted count n) (subst (λ (g : ℕ). IsLeastFree b.cells g Register number) same least) in
      let name_is : name_of group Register number ≡ name_of a.group Register (count + ticks) = ap (λ (g : ℕ). name_of g Register number) same ∙ ap (λ (k : ℕ). name_of a.group Register k) number_is in
      let leaves : LeavesFree b.cells c.cells (λ name. name ≡ name_of a.group Register (count + ticks)) = subst (λ (m : Name). LeavesFree b.cells c.cells (λ name. name ≡ m)) name_is t.names in
      let used : IsFree c.cells (name_of a.group Register (count + ticks)) → ⊥ = subst (λ (m : Name). IsFree c.cells m → ⊥) name_is (λ f. f.none to.place t.register.cell t.register.there t.register.named) in
      let more : suc (count + ticks) ≡ count + suc ticks = omega arith in
      subst (λ (k : ℕ). IsCounted c.cells a.group Register k) more (IsCounted-more a.group Register (count + ticks) t.lengthens.extends leaves used (p.counted count n));
  names = LeavesFree-trans a.cells b.cells c.cells (IsTouched a.group Register) (λ name. name ≡ name_of group Register number) (IsTouched a.group Register) (λ name h. h)
      (λ name h. inl (ap (λ (n : Name). n.group) h ∙ same, ap (λ (n : Name). n.kind) h)) p.names t.names;
  adders = SameAdders-trans p.adders t.adders;
  named = SameNamed-trans p.named (SameNamed-taken refl refl t);
  linear = KeepsShapes-trans p.linear t.linear;
}
  where
    step : (cut : Cut) → IsCut cut → (x : ℕ → ℤ) (v : Values) → IsRun cut c.cells x v → (s : ℕ) → v s to.place ≡ delayed (suc ticks) s (λ u. v u from.place)
    step cut law x v r zero = t.holds.holds cut law x v r 0 0 (every_tick 0)
    step cut law x v r (suc s) =
        let at : 0 + s * 1 ≡ s = omega arith in
        t.holds.holds cut law x v r (suc s) (suc s) (every_tick (suc s)) ∙ ap (λ (u : ℕ). v u last.place) at ∙ p.delays cut law x v (t.lengthens.extends.runs cut law x v r) s
