-- A register that takes a stream at its ticks holds it.
use Rattle.std.proofs.Common.{◌≡◌, ℕ, refl, ◌∙◌, ap, inl, inr, Option, Some}
use Rattle.net_graph.specs.declared.cell.Node.{Node}
use Rattle.net_graph.specs.declared.cell.Stream.{Stream}
use Rattle.net_graph.specs.declared.name.Name.{Name}
use Rattle.net_graph.specs.declared.name.NameKind.TheVariants.{Register, Control}
use Rattle.net_graph.specs.Cells.{NetView}
use Rattle.net_graph.specs.Count.{one_if, has_kind, is_window, is_table, windows_in, tables_in}
use Rattle.net_graph.proofs.GrowLemmas.{Grows-trans}
use Rattle.pipeline_balance.specs.Gate.{AddsGate, IsTaken}
use Rattle.pipeline_balance.specs.Numbered.{IsTouched, name_of}
use Rattle.pipeline_balance.proofs.CostLemmas.{SameAdders-trans, SameNamed-trans, nothing_more, other_kind}
use Rattle.pipeline_balance.proofs.NumberedLemmas.{LeavesFree-trans}
use Rattle.rounding_stage.specs.Held.{IsHeld}

touched_name : (own group number : ℕ) → group ≡ own → (name : Name) → name ≡ name_of group Register number → IsTouched own Register name
touched_name own group number same name e = inl (ap (λ (n : Name). n.group) e ∙ same, ap (λ (n : Name). n.kind) e)

pub IsHeld-taken : {old mid new : NetView} {from : Stream} {gate : Option Node} {group number : ℕ} {register : Node} → AddsGate old mid from.period from.offset gate → group ≡ mid.group → IsTaken mid new from (name_of group Register number) register → IsHeld old new from register
IsHeld-taken {old} {mid} {new} {from} {gate} {group} {number} {register} g same t =
    let name = name_of group Register number in
    record {
      grows = Grows-trans g.grows (t.grows same);
      holds = t.holds;
      same_adders = SameAdders-trans g.adders t.adders;
      same_named = SameNamed-trans g.named (record {
        windows = λ j. t.windows j ∙ nothing_more (windows_in j mid.cells) (one_if (has_kind is_window j (Some name))) (other_kind is_window j name refl);
        tables = λ j. t.tables j ∙ nothing_more (tables_in j mid.cells) (one_if (has_kind is_table j (Some name))) (other_kind is_table j name refl);
      });
      names = LeavesFree-trans old.cells mid.cells new.cells (λ (n : Name). n.kind ≡ Control) (λ (n : Name). n ≡ name) (IsTouched old.group Register) (λ n h. inr h) (touched_name old.group group number (same ∙ g.grows.group)) g.names t.names;
    }
