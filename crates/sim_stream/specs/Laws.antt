-- What is promised of simulations as a whole.
use Rattle.std.specs.Prelude.{◌≡◌, ℕ, List, Option}
use Rattle.verilog_tree.specs.Tree.{Design}
use Rattle.verilog_tree.specs.Meaning.{Values}
use Rattle.sample_file.specs.declared.fault.LineFault.{LineFault}
use Rattle.sample_file.specs.declared.ranges.Stimulus.{Stimulus}
use Rattle.sample_file.specs.Ranges.{Checked}
use Rattle.sim_stream.specs.Given.{Gives}

-- from any registers on, cycles give exactly one text
abbrev pub HasOneText : Design → Type 0
HasOneText d = (content : Values) (cycle tick : ℕ) (cycles : Checked Stimulus)
    → (text : List ℕ) × Gives d content cycle tick cycles text cycles.fault × ((other : List ℕ) (last : Option LineFault) → Gives d content cycle tick cycles other last → other ≡ text)
