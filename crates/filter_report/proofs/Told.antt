-- What is told of the groups is what the module costs.
use Rattle.std.proofs.Common.{◌≡◌, ℕ, ◌+◌, List, [], ◌∷◌, ◌++◌, refl, ◌∙◌, ap}
use Rattle.mr_values.specs.Timing.{Group}
use Rattle.stage_law.specs.declared.stage.Kind.{Kind}
use Rattle.stage_law.specs.declared.stage.Cost.{Cost}
use Rattle.verilog_tree.specs.Counted.{Counts, counted}
use Rattle.verilog_tree.specs.Tree.{Design}
use Rattle.chain_build.specs.Built.{kind_of}
use Rattle.chain_build.specs.declared.groups.GroupCost.{GroupCost}
use Rattle.filter_text.specs.Written.{TellsCost, TellCosts}
use Rattle.filter_report.specs.Costs.{counts_of, cost_lines}
use Rattle.filter_report.specs.Report.{group_line, group_lines}

counts_are : (cost : Cost) (counts : Counts) → TellsCost cost counts → counts_of cost ≡ counts
counts_are cost counts tells i = record { adders = tells.adders i; windows = tells.windows i; tables = tells.tables i }

pub told_lines : (number : ℕ) (gs : List Group) (costs : List GroupCost) (d : Design) → TellCosts number gs costs d → cost_lines number costs ≡ group_lines number gs d
told_lines number [] [] d tells = refl
told_lines number [] (c ∷ costs) d tells = absurd tells
told_lines number (g ∷ gs) [] d tells = absurd tells
told_lines number (g ∷ gs) (c ∷ costs) d tells =
    ap (λ (k : Kind). group_line number k (counts_of c.cost) ++ cost_lines (number + 1) costs) tells.0
    ∙ ap (λ (n : Counts). group_line number (kind_of g) n ++ cost_lines (number + 1) costs) (counts_are c.cost (counted d number) tells.1)
    ∙ ap (λ (rest : List ℕ). group_line number (kind_of g) (counted d number) ++ rest) (told_lines (number + 1) gs costs d tells.2)
