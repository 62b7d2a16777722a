-- The output register and the bit that is shown, one after the other.
use Rattle.std.proofs.Common.{◌≡◌, inl, inr, ℕ, ◌+◌, List, refl, ap, ℤ}
use Rattle.mr_values.specs.declared.plan.Element.{Element}
use Rattle.net_graph.specs.declared.cell.Node.{Node}
use Rattle.net_graph.specs.declared.cell.Stream.{Stream}
use Rattle.net_graph.specs.declared.name.Name.{Name}
use Rattle.net_graph.specs.declared.name.NameKind.TheVariants.{Output, Valid}
use Rattle.net_graph.specs.Cells.{NetView}
use Rattle.net_graph.specs.WellFormed.{IsFree}
use Rattle.net_graph.specs.Grow.{Lengthens}
use Rattle.net_graph.proofs.CutLemmas.{IsCut-all, IsCut-control}
use Rattle.net_graph.specs.Cut.{cut_all, cut_control}
use Rattle.net_graph.proofs.GrowLemmas.{Lengthens-trans}
use Rattle.net_outputs.specs.Register.{AddsOutputRegister}
use Rattle.net_outputs.specs.Shown.{AddsShownBit}
use Rattle.pipeline_balance.specs.Gate.{IsTickOf}
use Rattle.pipeline_balance.specs.Numbered.{name_of}
use Rattle.pipeline_balance.proofs.CostLemmas.{SameAdders-trans, SameNamed-trans}
use Rattle.pipeline_balance.proofs.NumberedLemmas.{IsRegister-later}
use Rattle.pipeline_balance.proofs.ShapeLemmas.{KeepsShapes-trans}
use Rattle.chain_build.specs.Added.{IsChained}
use Rattle.chain_build.specs.Output.{CanShow, AddsOutputs}
use Rattle.chain_build.proofs.Grown.{IsGrown-lengthens}

-- the outputs may be added behind a chain
pub can_show : {width ticks : ℕ} {elements : List Element} {old new : NetView} {from to : Stream} → IsChained width ticks elements old new from to → CanShow new to
can_show chained = record {
  within = chained.within;
  data_group = chained.grouped;
  positive = chained.positive;
  early = chained.early;
  free_output = chained.names (name_of 0 Output 0) (λ e. absurd (cc)) refl;
  free_valid = chained.names (name_of 0 Valid 0) (λ e. absurd (cc)) refl;
}

valid_apart : name_of 0 Valid 0 ≡ name_of 0 Output 0 → ⊥
valid_apart e = let k : Valid ≡ Output = ap (λ (x : Name). x.kind) e in absurd (cc)

-- the name of the bit is free behind the register
pub valid_free : {n0 n3 : NetView} {from : Stream} {out_q : Node} {low high : ℤ} → AddsOutputRegister low high n0 n3 from out_q → IsFree n0.cells (name_of 0 Valid 0) → IsFree n3.cells (name_of 0 Valid 0)
valid_free r f = r.names.free (name_of 0 Valid 0) (λ touched. elim touched [ inl same ↦ valid_apart same | inr control ↦ absurd (cc) ]) f

module _ {n0 n3 n5 : NetView} {from : Stream} {out_q out_valid : Node} {low high : ℤ}
    (r : AddsOutputRegister low high n0 n3 from out_q) (s : AddsShownBit (IsTickOf from.period (from.offset + 1)) n3 n5 out_valid) where
  lengthens : Lengthens n0 n5
  lengthens = Lengthens-trans r.lengthens s.lengthens

  pub AddsOutputs-both : AddsOutputs low high n0 n5 from (record { out_q = out_q; out_valid = out_valid })
  AddsOutputs-both = record {
    lengthens = lengthens;
    grown = IsGrown-lengthens lengthens;
    width = r.width;
    least = r.least;
    group = r.group;
    register = IsRegister-later s.lengthens.extends r.is_register;
    carries = λ cut law inputs values v fits run carried. r.carries cut law inputs values v fits (s.lengthens.extends.runs cut law inputs values run) carried;
    kept_whole = λ inputs values whole v fits run uncut carried carried_whole.
        r.kept_whole inputs values whole v fits (s.lengthens.extends.runs cut_all IsCut-all inputs values run) (s.lengthens.extends.runs cut_control IsCut-control inputs whole uncut) carried carried_whole;
    names = record {
      free = λ name other f.
          s.names.free name (λ touched. elim touched [ inl same ↦ other (inl (ap (λ (x : Name). x.group) same)) | inr control ↦ other (inr control) ])
          (r.names.free name (λ touched. elim touched [ inl same ↦ other (inl (ap (λ (x : Name). x.group) same)) | inr control ↦ other (inr control) ]) f);
    };
    shown = s.shown;
    shown_width = s.shown_width;
    shown_control = s.shown_control;
    bit = s.bit_of;
    adders = SameAdders-trans r.adders s.adders;
    named = SameNamed-trans r.named s.named;
    linear = KeepsShapes-trans r.linear s.linear;
  }
