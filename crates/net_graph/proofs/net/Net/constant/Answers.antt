use Rattle.std.proofs.Common.{rules, ◌≡◌, ℤ, to_z, of_z, subst, sym, ◌∙◌}
use Rattle.std.proofs.lemmas.Int.{to_z-of_z}
use mir.Syntax.{w128}
use mir.Val.{SFits}
use Rattle.mr_values.specs.Width.{FitsWidth}
use Rattle.mr_values.proofs.WidthLemmas.{FitsWidth-wrap}
use Rattle.net_graph.proofs.net.Net.constant.Goals as goal

-- what is cut to a width fits it
pub push-requires : goal.push-requires
push-requires c =
    let held : SFits w128 c.wrap-held.result = search rules in
    let back : to_z w128 (of_z w128 c.wrap-held.result) ≡ c.wrap-held.result = to_z-of_z w128 c.wrap-held.result held in
    record {
      reads = record {
        wide = c.requires;
        operands = subst (λ (z : ℤ). FitsWidth c.args.width z) (sym (back ∙ c.wrap-held.ensures)) (FitsWidth-wrap c.args.width _ c.requires.0);
        selects = tt;
        named = tt;
      };
      free = tt;
    }
