-- What is told for an expression of more than 128 bits.
use Rattle.std.specs.Prelude.{◌≡◌, ℕ, List, Option, codes, find}
use Rattle.std.specs.Option.{option_map}
use Rattle.verilog_tree.specs.Tree.{Design}
use Rattle.verilog_tree.specs.Names.{shapes_of, text_of}
use Rattle.verilog_tree.specs.Checks.{Side, has_over, or_else}
use Rattle.verilog_check.specs.declared.widths.Told.{Told}
use Rattle.verilog_check.specs.declared.widths.Told.TheVariants.{Clock, Target}

abbrev pub told_view : Design → Told → List ℕ
told_view d Clock = codes "clk"
told_view d (Target name) = text_of d name

-- what is told for the first of some expressions that has more than 128 bits
abbrev pub first_told : Design → List Side → Option (List ℕ)
first_told d all = option_map (λ (side : Side). side.told) (find (λ (side : Side). has_over (shapes_of d) side.tree) all)

-- this is told for the expressions that are put before further ones, if one of them has more than 128 bits
pub record FindsOver (d : Design) (put : List Side → List Side) (found : Option (List ℕ)) : Type 0 where
  pub finds : (rest : List Side) → first_told d (put rest) ≡ or_else found (first_told d rest)
