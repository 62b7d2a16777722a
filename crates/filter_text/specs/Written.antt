-- The module of a plan as the program has it, and its text.
use Rattle.std.specs.Prelude.{◌≡◌, ℕ, ◌+◌, List, [], ◌∷◌}
use Rattle.mr_values.specs.Timing.{Group, groups}
use Rattle.mr_values.specs.declared.plan.Element.{Element}
use Rattle.stage_law.specs.declared.stage.Cost.{Cost}
use Rattle.verilog_tree.specs.Counted.{Counts, counted}
use Rattle.verilog_tree.specs.Names.{shapes_of}
use Rattle.verilog_tree.specs.Shown.{ports_of}
use Rattle.verilog_tree.specs.Tree.{Design}
use Rattle.verilog_tree.specs.View.{design_view}
use Rattle.verilog_text.specs.Order.{IsInOrder, IsSameButPlaces}
use Rattle.verilog_text.specs.Reading.{Reads}
use Rattle.chain_build.specs.Built.{kind_of}
use Rattle.chain_build.specs.declared.groups.GroupCost.{GroupCost}
use Rattle.filter_text.specs.Extremes.{told_at, TellsExtremes}
use Rattle.filter_text.specs.Headline.{IsModuleOf}
use Rattle.filter_text.specs.declared.chain.ChainModule.{ChainModule}

-- a cost is as counted
pub record TellsCost (cost : Cost) (counts : Counts) : Type 0 where
  pub adders : cost.adders ≡ counts.adders
  pub windows : cost.windows ≡ counts.windows
  pub tables : cost.tables ≡ counts.tables

-- the bytes read as one module, which is this one wherever its declarations stand
pub record IsTextWritten (bytes : List ℕ) (written : Design) : Type 0 where
  pub design : Design
  pub reads : Reads bytes design
  pub only : (other : Design) → Reads bytes other → other ≡ design
  pub same : IsSameButPlaces design written

-- these are the forms of the groups, numbered from here, and what they cost, counted in the module's statements
abbrev pub TellCosts : ℕ → List Group → List GroupCost → Design → Type 0
TellCosts number [] [] d = Unit {0}
TellCosts number [] (c ∷ costs) d = ⊥
TellCosts number (g ∷ gs) [] d = ⊥
TellCosts number (g ∷ gs) (c ∷ costs) d = (c.kind ≡ kind_of g) × TellsCost c.cost (counted d number) × TellCosts (number + 1) gs costs d

-- the module is that of the chain, wherever its declarations stand, and is written in order; so many bits has its output, these are the
-- costs of its groups, and this is told of its registers
pub record IsChainModule (elements : List Element) (width ticks latency period : ℕ) (chain : ChainModule) : Type 0 where
  pub is_module : (d : Design) → IsSameButPlaces d (design_view chain.design) → IsModuleOf elements width ticks latency period d
  pub in_order : IsInOrder (design_view chain.design)
  pub output : (d : Design) → IsSameButPlaces d (design_view chain.design) → chain.output ≡ (shapes_of d).width (ports_of d).out_data
  pub costs : TellCosts 1 (groups elements) chain.costs.items (design_view chain.design)
  pub extremes : (d : Design) → IsSameButPlaces d (design_view chain.design) → TellsExtremes elements width ticks d (told_at chain.extremes.items)
