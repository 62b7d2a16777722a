-- Pieces one after another.
use Rattle.std.proofs.Common.{◌≡◌, ℕ, ◌+◌, ◌-◌, ◌<◌, ◌≤◌, length, sym, ◌∙◌, arith, inl, inr, subst, Option}
use Rattle.std.proofs.lemmas.Bool.{cases_lt}
use Rattle.net_graph.specs.declared.cell.Node.{Node}
use Rattle.net_graph.specs.declared.name.NameKind.TheVariants.{Register, Control}
use Rattle.net_graph.specs.Cells.{NetView}
use Rattle.net_graph.specs.Count.{adders_in}
use Rattle.net_graph.specs.Depth.{IsPlain, IsShallow}
use Rattle.net_graph.proofs.DepthLemmas.{IsPlain-later}
use Rattle.net_graph.proofs.GrowLemmas.{Grows-refl, Grows-trans}
use Rattle.pipeline_balance.specs.Costs.{SameAdders, SameNamed}
use Rattle.pipeline_balance.specs.Gate.{AddsGate}
use Rattle.pipeline_balance.specs.Shapes.{KeepsShapes}
use Rattle.pipeline_balance.specs.Numbered.{IsCounted, IsTouched, LeavesFree}
use Rattle.pipeline_balance.proofs.CostLemmas.{SameNamed-refl, SameNamed-trans}
use Rattle.pipeline_balance.proofs.NumberedLemmas.{LeavesFree-refl, LeavesFree-trans, IsCounted-leaves}
use Rattle.pipeline_balance.proofs.ShallowLemmas.{shallow_more}
use Rattle.pipeline_balance.proofs.ShapeLemmas.{KeepsShapes-refl, KeepsShapes-trans}
use Rattle.net_graph.specs.Grow.{Grows}
use Rattle.stage_law.specs.Alike.{HasRegister}
use Rattle.stage_law.proofs.AlikeLemmas.{HasRegister-later}
use Rattle.cic_chain.specs.Pieces.{IsPiece}

pub IsPiece-none : (net : NetView) (from : Node) (width : ℕ) → from.place < length net.cells → IsPiece net net from from width 0 0
IsPiece-none net from width inside = record {
  grows = Grows-refl net;
  within = inside;
  adds = omega arith;
  named = SameNamed-refl net.cells;
  names = LeavesFree-refl net.cells (IsTouched net.group Register);
  counted = λ count c. let same : count ≡ count + 0 = omega arith in subst (λ (n : ℕ). IsCounted net.cells net.group Register n) same c;
  wide = λ count c j h. absurd (omega arith);
  shallow = λ s p. s;
  plain = λ s p. p;
  linear = KeepsShapes-refl net.cells;
}

-- nodes of control lead from a node to itself
pub IsPiece-control : {old new : NetView} (from : Node) (width : ℕ) → 1 ≤ old.group → from.place < length old.cells → Grows old new → SameAdders old.cells new.cells → SameNamed old.cells new.cells → LeavesFree old.cells new.cells (λ name. name.kind ≡ Control) → KeepsShapes old.cells new.cells → IsPiece old new from from width 0 0
IsPiece-control {old} {new} from width some inside g adders named names linear = record {
  grows = g;
  within = let l = g.extends.longer in omega arith;
  adds = adders.each old.group some ∙ omega arith;
  named = named;
  names = record { free = λ name other f. names.free name (λ e. other (inr e)) f };
  counted = λ count c.
      let same : count ≡ count + 0 = omega arith in
      subst (λ (n : ℕ). IsCounted new.cells old.group Register n) same (IsCounted-leaves old.group Register count g.extends names (λ number e. absurd (cc)) c);
  wide = λ count c j h. absurd (omega arith);
  shallow = λ s p. shallow_more old.group some g adders s;
  plain = λ s p. IsPlain-later old.cells new.cells old.group s.bound g.extends from.place p;
  linear = linear;
}

pub IsPiece-gate : {old new : NetView} {period offset : ℕ} {gate : Option Node} (from : Node) (width : ℕ) → 1 ≤ old.group → from.place < length old.cells → AddsGate old new period offset gate → IsPiece old new from from width 0 0
IsPiece-gate from width some inside g = IsPiece-control from width some inside g.grows g.adders g.named g.names g.linear

pub IsPiece-then : {a b c : NetView} {from mid to : Node} {width r s m n : ℕ} → IsPiece a b from mid width r m → IsPiece b c mid to width s n → IsPiece a c from to width (r + s) (m + n)
IsPiece-then {a} {b} {c} {from} {mid} {to} {width} {r} {s} {m} {n} p q =
    let same = p.grows.group in
    let counts : (count : ℕ) → IsCounted a.cells a.group Register count → IsCounted b.cells b.group Register (count + r) = λ count h. subst (λ (g : ℕ). IsCounted b.cells g Register (count + r)) (sym same) (p.counted count h) in
    record {
      grows = Grows-trans p.grows q.grows;
      within = q.within;
      adds =
          let second : adders_in a.group c.cells ≡ adders_in a.group b.cells + n = subst (λ (g : ℕ). adders_in g c.cells ≡ adders_in g b.cells + n) same q.adds in
          let first = p.adds in
          omega (arith, first, second);
      named = SameNamed-trans p.named q.named;
      names = LeavesFree-trans a.cells b.cells c.cells (IsTouched a.group Register) (IsTouched b.group Register) (IsTouched a.group Register) (λ name h. h) (λ name h. subst (λ (g : ℕ). IsTouched g Register name) same h) p.names q.names;
      counted = λ count h.
          let total : count + r + s ≡ count + (r + s) = omega arith in
          subst (λ (k : ℕ). IsCounted c.cells a.group Register k) total (subst (λ (g : ℕ). IsCounted c.cells g Register (count + r + s)) same (q.counted (count + r) (counts count h)));
      wide = λ count h j less. elim (cases_lt j r) [
        | inl early ↦ HasRegister-later q.grows.extends (p.wide count h j early)
        | inr later ↦
            let at : count + r + (j - r) ≡ count + j = omega arith in
            subst (λ (k : ℕ). HasRegister c.cells a.group k width) at (subst (λ (g : ℕ). HasRegister c.cells g (count + r + (j - r)) width) same (q.wide (count + r) (counts count h) (j - r) (omega arith)))
      ];
      shallow = λ s p1.
          let s1 : IsShallow b.cells b.group = subst (λ (g : ℕ). IsShallow b.cells g) (sym same) (p.shallow s p1) in
          let plain : IsPlain b.cells b.group mid.place = subst (λ (g : ℕ). IsPlain b.cells g mid.place) (sym same) (p.plain s p1) in
          subst (λ (g : ℕ). IsShallow c.cells g) same (q.shallow s1 plain);
      plain = λ s p1.
          let s1 : IsShallow b.cells b.group = subst (λ (g : ℕ). IsShallow b.cells g) (sym same) (p.shallow s p1) in
          let plain : IsPlain b.cells b.group mid.place = subst (λ (g : ℕ). IsPlain b.cells g mid.place) (sym same) (p.plain s p1) in
          subst (λ (g : ℕ). IsPlain c.cells g to.place) same (q.plain s1 plain);
      linear = KeepsShapes-trans p.linear q.linear;
    }

-- the same piece, counted anew
pub IsPiece-counts : {old new : NetView} {from to : Node} {width r s m n : ℕ} → r ≡ s → m ≡ n → IsPiece old new from to width r m → IsPiece old new from to width s n
IsPiece-counts {old} {new} {from} {to} {width} {r} {s} {m} {n} e f p = subst (λ (k : ℕ). IsPiece old new from to width s k) f (subst (λ (k : ℕ). IsPiece old new from to width k m) e p)
