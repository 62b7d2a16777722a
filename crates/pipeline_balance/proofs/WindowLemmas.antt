-- A window, register by register.
use Rattle.std.proofs.Common.{Bool, true, false, ◌&&◌, eq-eqb, ◌≡◌, ℕ, zero, suc, ◌+◌, ◌<◌, ◌≤◌, List, [], ◌∷◌, ◌++◌, length, length-append, refl, ◌∙◌, ap, arith, Some, Option, slice_get, inl, inr, subst, sym}
use Rattle.net_graph.specs.declared.cell.Cell.{Cell}
use Rattle.net_graph.specs.declared.cell.Node.{Node}
use Rattle.net_graph.specs.declared.cell.Stream.{Stream}
use Rattle.net_graph.specs.declared.name.Name.{Name}
use Rattle.net_graph.specs.declared.name.NameKind.TheVariants.{Control, Window}
use Rattle.net_graph.specs.Cells.{NetView, cell_at}
use Rattle.net_graph.specs.WellFormed.{IsLeastFree, IsFree}
use Rattle.net_graph.specs.Grow.{Extends, Grows}
use Rattle.net_graph.proofs.Lists.{slice_get_push_cases}
use Rattle.net_graph.proofs.CellLemmas.{cell_at-is}
use Rattle.net_graph.proofs.GrowLemmas.{Grows-trans}
use Rattle.pipeline_balance.specs.Numbered.{IsRegister, IsCounted, IsTouched, LeavesFree, name_of}
use Rattle.pipeline_balance.specs.Gate.{IsGate, AddsGate, Holds, IsTaken, IsWindow}
use Rattle.net_graph.specs.Count.{one_if, is_window, is_table, has_kind, windows_in, tables_in}
use Rattle.pipeline_balance.specs.Costs.{SameAdders, SameNamed}
use Rattle.pipeline_balance.specs.Shapes.{KeepsShapes}
use Rattle.pipeline_balance.proofs.CostLemmas.{SameAdders-trans, nothing_more, other_kind}
use Rattle.pipeline_balance.proofs.NumberedLemmas.{width-later, IsRegister-later, LeavesFree-trans, IsCounted-leaves, IsCounted-more, least_is}
use Rattle.pipeline_balance.proofs.ShapeLemmas.{KeepsShapes-trans}
use Rattle.pipeline_balance.proofs.TakenLemmas.{IsGate-later, Holds-later, Holds-more}

-- the last register of a window so far, or the stream's own node
abbrev pub IsLast : List Cell → Stream → ℕ → Node → Type 0
IsLast cells from zero last = last ≡ from.node
IsLast cells from (suc age) last = Holds cells from age last

-- a window so far
pub record WindowSoFar (old net : NetView) (from : Stream) (gate : Option Node) (last : Node) (nodes : List Node) : Type 0 where
  pub grows : Grows old net
  pub gated : IsGate net.cells from.period from.offset gate
  pub within : last.place < length net.cells
  pub wide : (cell_at net.cells last.place).width ≡ (cell_at old.cells from.node.place).width
  pub last_is : IsLast net.cells from (length nodes) last
  pub holds : (age : ℕ) (node : Node) → slice_get nodes age ≡ Some node → Holds net.cells from age node
  pub registers : (number : ℕ) → IsCounted old.cells old.group Window number → (age : ℕ) (node : Node) → slice_get nodes age ≡ Some node → IsRegister net.cells node.place old.group (name_of old.group Window (number + age)) (cell_at old.cells from.node.place).width
  pub counted : (number : ℕ) → IsCounted old.cells old.group Window number → IsCounted net.cells old.group Window (number + length nodes)
  pub names : LeavesFree old.cells net.cells (IsTouched old.group Window)
  pub adders : SameAdders old.cells net.cells
  pub windows : windows_in old.group net.cells ≡ windows_in old.group old.cells + length nodes
  pub tables : tables_in old.group net.cells ≡ tables_in old.group old.cells
  pub linear : KeepsShapes old.cells net.cells

-- a name of a window is none of control
window_apart : (group number : ℕ) → (name_of group Window number).kind ≡ Control → ⊥
window_apart group number e = absurd (cc)

pub WindowSoFar-start : {old net : NetView} {from : Stream} {gate : Option Node} → from.node.place < length old.cells → AddsGate old net from.period from.offset gate → WindowSoFar old net from gate from.node []
WindowSoFar-start {old} {net} {from} {gate} inside g = record {
  grows = g.grows;
  gated = g.is_gate;
  within = let l = g.grows.extends.longer in omega arith;
  wide = width-later old.cells net.cells from.node.place g.grows.extends inside;
  last_is = refl;
  holds = λ age node is. absurd (cc);
  registers = λ number c age node is. absurd (cc);
  counted = λ number c.
      let same : number ≡ number + 0 = omega arith in
      subst (λ (n : ℕ). IsCounted net.cells old.group Window n) same (IsCounted-leaves old.group Window number g.grows.extends g.names (window_apart old.group) c);
  names = record { free = λ name other f. g.names.free name (λ control. other (inr control)) f };
  adders = g.adders;
  windows = g.named.windows old.group ∙ omega arith;
  tables = g.named.tables old.group;
  linear = g.linear;
}

-- what the next register holds
next_holds : {cells new : List Cell} {from : Stream} {last to : Node} (n : ℕ) → 1 ≤ from.period → Extends cells new → IsLast cells from n last → Holds new (record { node = last; period = from.period; offset = from.offset }) 0 to → Holds new from n to
next_holds {cells} {new} {from} {last} {to} zero positive e l h = subst (λ (node : Node). Holds new (record { node = node; period = from.period; offset = from.offset }) 0 to) l h
next_holds {cells} {new} {from} {last} {to} (suc age) positive e l h = Holds-more positive e l h

-- a register's name is taken
IsTaken-used : {old new : NetView} {from : Stream} {name : Name} {to : Node} → IsTaken old new from name to → IsFree new.cells name → ⊥
IsTaken-used {old} {new} {from} {name} {to} t f = f.none to.place t.register.cell t.register.there t.register.named

-- one more register, with the least free number
pub WindowSoFar-step : {old net new : NetView} {from : Stream} {gate : Option Node} {last to : Node} {nodes : List Node} {group number : ℕ} → 1 ≤ from.period → group ≡ old.group → WindowSoFar old net from gate last nodes → IsLeastFree net.cells group Window number
    → IsTaken net new (record { node = last; period = from.period; offset = from.offset }) (name_of group Window number) to → WindowSoFar old new from gate to (nodes ++ to ∷ [])
WindowSoFar-step {old} {net} {new} {from} {gate} {last} {to} {nodes} {group} {number} positive same p least t =
    let grown : Grows net new = t.grows (same ∙ sym p.grows.group) in
    let e = t.lengthens.extends in
    let count : length (nodes ++ to ∷ []) ≡ length nodes + 1 = length-append nodes (to ∷ []) in
    let next : suc (length nodes) ≡ length (nodes ++ to ∷ []) = omega (arith, count) in
    let here : Holds new.cells from (length nodes) to = next_holds (length nodes) positive e p.last_is t.holds in
    let number_is : (first : ℕ) → IsCounted old.cells old.group Window first → number ≡ first + length nodes =
    λ first c. least_is net.cells old.group Window (first + length nodes) number (p.counted first c) (subst (λ (g : ℕ). IsLeastFree net.cells g Window number) same least) in
    let name_is : (first : ℕ) → IsCounted old.cells old.group Window first → name_of group Window number ≡ name_of old.group Window (first + length nodes) =
    λ first c. ap (λ (g : ℕ). name_of g Window number) same ∙ ap (λ (n : ℕ). name_of old.group Window n) (number_is first c) in
    record {
      grows = Grows-trans p.grows grown;
      gated = IsGate-later net.cells new.cells from.period from.offset gate e p.gated;
      within = t.holds.within;
      wide = ap (λ (c : Cell). c.width) (cell_at-is new.cells to.place t.register.cell t.register.there) ∙ t.register.wide ∙ p.wide;
      last_is = subst (λ (n : ℕ). IsLast new.cells from n to) next here;
      holds = λ age node is. elim (slice_get_push_cases nodes to age node is) [
        | inl before ↦ Holds-later e (p.holds age node before)
        | inr now ↦ rw (now.0, now.1) here
      ];
      registers = λ first c age node is. elim (slice_get_push_cases nodes to age node is) [
        | inl before ↦ IsRegister-later e (p.registers first c age node before)
        | inr now ↦
            let r : IsRegister new.cells to.place old.group (name_of old.group Window (first + length nodes)) (cell_at old.cells from.node.place).width =
            subst (λ (w : ℕ). IsRegister new.cells to.place old.group (name_of old.group Window (first + length nodes)) w) p.wide
            (subst (λ (n : Name). IsRegister new.cells to.place old.group n (cell_at net.cells last.place).width) (name_is first c)
            (subst (λ (g : ℕ). IsRegister new.cells to.place g (name_of group Window number) (cell_at net.cells last.place).width) p.grows.group t.register)) in
            rw (now.0, now.1) r
      ];
      counted = λ first c.
          let more : suc (first + length nodes) ≡ first + length (nodes ++ to ∷ []) = omega (arith, count) in
          let leaves : LeavesFree net.cells new.cells (λ name. name ≡ name_of old.group Window (first + length nodes)) = subst (λ (n : Name). LeavesFree net.cells new.cells (λ name. name ≡ n)) (name_is first c) t.names in
          let used : IsFree new.cells (name_of old.group Window (first + length nodes)) → ⊥ = subst (λ (n : Name). IsFree new.cells n → ⊥) (name_is first c) (IsTaken-used t) in
          subst (λ (n : ℕ). IsCounted new.cells old.group Window n) more (IsCounted-more old.group Window (first + length nodes) e leaves used (p.counted first c));
      names = LeavesFree-trans old.cells net.cells new.cells (IsTouched old.group Window) (λ name. name ≡ name_of group Window number) (IsTouched old.group Window) (λ name h. h)
          (λ name h. inl (ap (λ (n : Name). n.group) h ∙ same, ap (λ (n : Name). n.kind) h)) p.names t.names;
      adders = SameAdders-trans p.adders t.adders;
      windows =
          let one : one_if (has_kind is_window old.group (Some (name_of group Window number))) ≡ 1 = ap (λ (b : Bool). one_if (b && true)) (eq-eqb group old.group same) in
          let now = t.windows old.group in
          let before = p.windows in
          omega (arith, one, now, before, count);
      tables = t.tables old.group ∙ nothing_more (tables_in old.group net.cells) (one_if (has_kind is_table old.group (Some (name_of group Window number)))) (other_kind is_table old.group (name_of group Window number) refl) ∙ p.tables;
      linear = KeepsShapes-trans p.linear t.linear;
    }

pub WindowSoFar-window : {old net : NetView} {from : Stream} {gate : Option Node} {last : Node} {nodes : List Node} → WindowSoFar old net from gate last nodes → IsWindow old net from nodes
WindowSoFar-window p = record { grows = p.grows; holds = p.holds; registers = p.registers; counted = p.counted; names = p.names; adders = p.adders; windows = p.windows; tables = p.tables; linear = p.linear }

-- a register that is no window and no table
pub SameNamed-taken : {old new : NetView} {from : Stream} {name : Name} {to : Node} → is_window name.kind ≡ false → is_table name.kind ≡ false → IsTaken old new from name to → SameNamed old.cells new.cells
SameNamed-taken {old} {new} {from} {name} {to} no_window no_table t = record {
  windows = λ group. t.windows group ∙ nothing_more (windows_in group old.cells) (one_if (has_kind is_window group (Some name))) (other_kind is_window group name no_window);
  tables = λ group. t.tables group ∙ nothing_more (tables_in group old.cells) (one_if (has_kind is_table group (Some name))) (other_kind is_table group name no_table);
}
