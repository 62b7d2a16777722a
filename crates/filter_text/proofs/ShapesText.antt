-- The statements of a plan's groups have the shapes of their forms, where its net's nodes have them.
use Rattle.std.proofs.Common.{ℕ, ◌+◌, ◌<◌, ◌≤◌, ◌^◌, List, [], ◌∷◌, length, arith}
use Rattle.mr_values.specs.declared.plan.Element.{Element}
use Rattle.mr_values.specs.Timing.{Group, groups}
use Rattle.net_graph.specs.declared.cell.Cell.{Cell}
use Rattle.net_graph.specs.Tables.{HasOwnTables}
use Rattle.net_graph.specs.WellFormed.{IsNetlist}
use Rattle.net_module.specs.Written.{written_module}
use Rattle.net_text.specs.Small.{AreSmall}
use Rattle.module_shapes.proofs.Places.{same_linear}
use Rattle.module_shapes.proofs.Shapes.{linear_shapes}
use Rattle.verilog_tree.specs.Tree.{Design}
use Rattle.verilog_text.specs.Order.{IsSameButPlaces}
use Rattle.chain_build.specs.Shapes.{HaveLinearItems}
use Rattle.filter_text.specs.Headline.{HaveShapes}
use Rattle.filter_text.proofs.CountedText.{few_groups}

module _ (cells : List Cell) (netlist : IsNetlist cells) (small : AreSmall cells) (own : HasOwnTables cells) (d : Design) (same : IsSameButPlaces d (written_module cells)) where
  have_shapes : (number : ℕ) (gs : List Group) → 1 ≤ number → number + length gs < 2 ^ 64 → HaveLinearItems number gs cells → HaveShapes number gs d
  have_shapes number [] some low are = tt
  have_shapes number (g ∷ gs) some low are = (
    (λ is. same_linear d (written_module cells) same number (linear_shapes cells netlist small own number some (omega (arith, low)) (are.0 is))),
    have_shapes (number + 1) gs (omega arith) (omega (arith, low)) are.1,
  )

pub chain_shaped : (es : List Element) (cells : List Cell) → length es ≤ 32 → IsNetlist cells → AreSmall cells → HasOwnTables cells → HaveLinearItems 1 (groups es) cells → (d : Design) → IsSameButPlaces d (written_module cells) → HaveShapes 1 (groups es) d
chain_shaped es cells few netlist small own are d same = have_shapes cells netlist small own d same 1 (groups es) (omega arith) (let g = few_groups es in omega (arith, g, few)) are
